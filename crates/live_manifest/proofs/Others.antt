-- The tries of the policies that are left, taken one by one.
use Rattle.std.proofs.Common.{◌≡◌, ℕ, Bool, true, false, cond, List, [], ◌∷◌, ◌++◌, append_assoc, Some, refl, sym, ap, ◌∙◌, subst}
use Rattle.std.specs.Prelude.{filter, not, IsSomeAnd}
use Rattle.std.specs.BTreeMap.{get}
use Rattle.std.specs.List.{AllZip}
use Rattle.std.specs.Ordering.{is_eq}
use Rattle.std.specs.declared.vec.Vec.{Vec}
use Rattle.std.specs.declared.alloc.Global.{Global}
use Rattle.plain_lemmas.proofs.Lists.{append_empty}
use Rattle.policy_values.specs.Uid.{text_cmp}
use Rattle.access_tries.specs.Table.{Table}
use Rattle.schema_core.specs.Schema.{SchemaData}
use Rattle.policy_set.specs.Data.{PolicyData}
use Rattle.policy_set.specs.Removal.{is_another_policy}
use Rattle.live_manifest.specs.Adding.{Tries}
use Rattle.live_manifest.specs.Tries.{HasTriesOf, HaveTries}

module _ (schema : SchemaData) (m : Tries) (id : List ℕ) where
  abbrev AreOf : List PolicyData → List (Vec Table Global) → Type 0
  AreOf ps xs = AllZip (HasTriesOf schema) (filter (is_another_policy id) ps) xs

  -- with those of what is left these are all, and what is left has its tries
  pub record AreTaken (all it : List PolicyData) (xs : List (Vec Table Global)) : Type 0 where
    pub taken : (more : List (Vec Table Global)) → AreOf it more → AreOf all (xs ++ more)
    pub left : HaveTries schema m it

  pub taken_start : (all : List PolicyData) → HaveTries schema m all → AreTaken all all []
  taken_start all h = record { taken = λ more k. k; left = h }

  pub taken_end : (all it : List PolicyData) (xs : List (Vec Table Global)) → it ≡ [] → AreTaken all it xs → AreOf all xs
  taken_end all it xs none h = subst (AreOf all) (append_empty xs) (h.taken [] (subst (λ ps. AreOf ps []) (sym none) tt))

  module _ (all it rest : List PolicyData) (p : PolicyData) (is : it ≡ p ∷ rest) (xs : List (Vec Table Global)) (h : AreTaken all it xs) where
    pub taken_not : is_another_policy id p ≡ false → AreTaken all rest xs
    taken_not same = record {
      taken = λ more k. h.taken more (subst (λ ps. AreOf ps more) (sym is) (subst (λ b. AllZip (HasTriesOf schema) (cond b (p ∷ filter (is_another_policy id) rest) (filter (is_another_policy id) rest)) more) (sym same) k));
      left = (subst (HaveTries schema m) is h.left).1;
    }

    pub taken_too : is_another_policy id p ≡ true → (x : Vec Table Global) → get text_cmp m p.id ≡ Some x → (ys : List (Vec Table Global)) → ys ≡ xs ++ x ∷ [] → AreTaken all rest ys
    taken_too other x found ys more_is = record {
      taken = λ more k. subst (AreOf all) (sym (ap (λ l. l ++ more) more_is ∙ append_assoc xs (x ∷ []) more))
          (h.taken (x ∷ more) (subst (λ ps. AreOf ps (x ∷ more)) (sym is)
          (subst (λ b. AllZip (HasTriesOf schema) (cond b (p ∷ filter (is_another_policy id) rest) (filter (is_another_policy id) rest)) (x ∷ more)) (sym other)
          (subst (λ o. IsSomeAnd o (HasTriesOf schema p)) found (subst (HaveTries schema m) is h.left).0, k))));
      left = (subst (HaveTries schema m) is h.left).1;
    }
