use Rattle.std.proofs.Common.{◌≡◌, ℕ, Bool, true, false, List, [], ◌∷◌, ◌++◌, drop, length, eqb, ap, arith, refl}
use Rattle.std.proofs.lemmas.Bool.Decides.{Decides-eqb}
use Rattle.std.proofs.lemmas.Slice.Eq.{starts_is}
use Rattle.std.proofs.lemmas.Str.Pattern.{contains_text}
use Rattle.std.specs.Cmp.{both_ways}
use Rattle.std.specs.List.{starts_with}
use Rattle.std.specs.Str.Iter.{HasSubslice}
use Rattle.policy_scope.specs.Names.{occurs_in}
use Rattle.policy_scope.proofs.names.has_part.Goals as goal

starts : (part s : List ℕ) → (starts_with eqb s part ≡ true → s ≡ part ++ drop (length part) s) × ((rest : List ℕ) → s ≡ part ++ rest → starts_with eqb s part ≡ true)
starts part s = starts_is Decides-eqb s part (starts_with eqb s part) refl

occurs_in_prefix : (part s : List ℕ) → starts_with eqb s part ≡ true → occurs_in part s ≡ true
occurs_in_prefix part [] h = h
occurs_in_prefix part (c ∷ cs) h = rw h refl

occurs_behind : (part a b : List ℕ) → occurs_in part (a ++ (part ++ b)) ≡ true
occurs_behind part [] b = occurs_in_prefix part (part ++ b) ((starts part (part ++ b)).1 b refl)
occurs_behind part (x ∷ a) b = let h = occurs_behind part a b in grind arith

found_in : (part s : List ℕ) → occurs_in part s ≡ true → HasSubslice s part
found_in part [] h = ([], drop (length part) [], (starts part []).0 h)
found_in part (c ∷ cs) h = by_prefix (starts_with eqb (c ∷ cs) part) refl (found_in part cs) where
  by_prefix : (b : Bool) → starts_with eqb (c ∷ cs) part ≡ b → (occurs_in part cs ≡ true → HasSubslice cs part) → HasSubslice (c ∷ cs) part
  by_prefix true prefix later = ([], drop (length part) (c ∷ cs), (starts part (c ∷ cs)).0 prefix)
  by_prefix false prefix later = let rest = later (rw prefix at h) in (c ∷ rest.0, rest.1, ap (λ s. c ∷ s) rest.2)

pub returns : goal.returns
returns c =
    let k = contains_text c.contains.result c.args.part.now c.args.text.now c.contains.ensures.cases in
    both_ways _ _
    (λ h. let s = k.0 h in rw s.2 (occurs_behind c.args.part.now s.0 s.1))
    (λ h. k.1 (found_in c.args.part.now c.args.text.now h))
