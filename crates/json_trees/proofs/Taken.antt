-- What is left of the members of a tree when one of them is taken out.
use Rattle.std.proofs.Common.{◌≡◌, ℕ, ◌+◌, ◌<◌, List, [], ◌∷◌, ◌++◌, true, false, cond, length, take, drop, get_or, Option, Some, None, refl, sym, ap, ◌∙◌}
use Rattle.std.specs.Borrow.{Bor}
use Rattle.std.specs.Str.{bytes_eq}
use Rattle.std.proofs.lemmas.List.{take-append-drop, take_more, drop_more}
use Rattle.std.proofs.lemmas.Slice.Eq.{bytes_eq-Decides}
use Rattle.json.specs.Json.{Json}
use Rattle.json.specs.Find.{get_member, later_or}
use Rattle.json.specs.Value.{value_view, members_view}
use Rattle.json.specs.declared.value.Value.{Value}
use Rattle.json.proofs.Trees.{get_member-push}

none_later : (o : Option Json) → later_or o None ≡ o
none_later None = refl
none_later (Some j) = refl

-- a member of another name is the same without the one between
kept : {A : Type 0} (other : List ℕ) (xs : List (Bor (List ℕ) × Value A)) (m : Bor (List ℕ) × Value A) (ys : List (Bor (List ℕ) × Value A)) → bytes_eq m.0.now other ≡ false
    → get_member other (members_view (xs ++ ys)) ≡ get_member other (members_view (xs ++ m ∷ ys))
kept other [] m ys not = rw not (sym (none_later (get_member other (members_view ys))))
kept other (x ∷ xs) m ys not = ap (λ o. later_or o (cond (bytes_eq x.0.now other) (Some (value_view x.1)) None)) (kept other xs m ys not)

split_at : {A : Type 0} (ms : List (Bor (List ℕ) × Value A)) (i : ℕ) (m : Bor (List ℕ) × Value A) → i < length ms → m ≡ get_or ms i m → take i ms ++ m ∷ drop (i + 1) ms ≡ ms
split_at ms i m within is = ap (λ n. take i ms ++ n ∷ drop (i + 1) ms) is ∙ ap (λ ns. take i ms ++ ns) (sym (drop_more ms i m within)) ∙ take-append-drop i ms

-- what other members there are stays when one of the name is taken out
pub others_kept : {A : Type 0} (name : List ℕ) (ms : List (Bor (List ℕ) × Value A)) (i : ℕ) (m : Bor (List ℕ) × Value A) → i < length ms → m ≡ get_or ms i m → bytes_eq m.0.now name ≡ true
    → (other : List ℕ) → bytes_eq name other ≡ false → get_member other (members_view (take i ms ++ drop (i + 1) ms)) ≡ get_member other (members_view ms)
others_kept name ms i m within is same other not =
    kept other (take i ms) m (drop (i + 1) ms) (ap (λ k. bytes_eq k other) ((bytes_eq-Decides m.0.now name).0 same) ∙ not)
    ∙ ap (λ ns. get_member other (members_view ns)) (split_at ms i m within is)

pushed : {A : Type 0} (name : List ℕ) (ms : List (Bor (List ℕ) × Value A)) (i : ℕ) (m : Bor (List ℕ) × Value A) → i < length ms → m ≡ get_or ms i m
    → get_member name (members_view (take (i + 1) ms)) ≡ cond (bytes_eq m.0.now name) (Some (value_view m.1)) (get_member name (members_view (take i ms)))
pushed name ms i m within is =
    ap (λ ns. get_member name (members_view ns)) (take_more ms i m within ∙ ap (λ n. take i ms ++ n ∷ []) (sym is)) ∙ get_member-push name (take i ms) m

-- where those up to it decide, a member of the name is the last
pub last_found : {A : Type 0} (name : List ℕ) (ms : List (Bor (List ℕ) × Value A)) (i : ℕ) (m : Bor (List ℕ) × Value A) → i < length ms → m ≡ get_or ms i m → bytes_eq m.0.now name ≡ true
    → get_member name (members_view (take (i + 1) ms)) ≡ get_member name (members_view ms) → Some (value_view m.1) ≡ get_member name (members_view ms)
last_found name ms i m within is same decide = sym (pushed name ms i m within is ∙ rw same refl) ∙ decide

-- without one of another name, those before it decide
pub one_less : {A : Type 0} (name : List ℕ) (ms : List (Bor (List ℕ) × Value A)) (i : ℕ) (m : Bor (List ℕ) × Value A) → i < length ms → m ≡ get_or ms i m → bytes_eq m.0.now name ≡ false
    → get_member name (members_view (take (i + 1) ms)) ≡ get_member name (members_view ms) → get_member name (members_view (take i ms)) ≡ get_member name (members_view ms)
one_less name ms i m within is not decide = sym (pushed name ms i m within is ∙ rw not refl) ∙ decide
