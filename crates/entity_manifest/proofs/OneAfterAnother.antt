-- Answers to requests, one after another.
use Rattle.std.proofs.Common.{◌⊎◌, ◌≤◌, ◌+◌, ◌^◌, List, [], ◌∷◌, ◌++◌, refl, sym, ◌∙◌, subst, arith, inl, inr}
use Rattle.std.specs.List.{AllZip}
use Rattle.entity_store.specs.declared.request.Request.{Request}
use Rattle.policy_set.specs.Data.{PolicyData}
use Rattle.schema_core.specs.Schema.{SchemaData}
use Rattle.entity_loader.specs.State.{LoaderState, Continues}
use Rattle.entity_loading.specs.declared.error.EntitySliceError.TheVariants as error
use Rattle.entity_manifest.specs.declared.answer.BatchAnswer.{BatchAnswer}
use Rattle.entity_manifest.specs.declared.answer.BatchAnswer.TheVariants.{Partial, Refused, Loading, Decided}
use Rattle.entity_manifest.specs.Answers.{IsLoaderAnswer, AreLoaderAnswers, is_fault, AreCounted}
use Rattle.entity_manifest.specs.BatchLaws.{FaultsAreCounted}

pub zip_push : {X Y : Type 0} (R : X → Y → Type 0) (xs : List X) (ys : List Y) (x : X) (y : Y) → AllZip R xs ys → R x y →
    AllZip R (xs ++ x ∷ []) (ys ++ y ∷ [])
zip_push R [] [] x y h r = (r, tt)
zip_push R (a ∷ xs) (b ∷ ys) x y h r = (h.0, zip_push R xs ys x y h.1 r)
zip_push R [] (b ∷ ys) x y h r = absurd h
zip_push R (a ∷ xs) [] x y h r = absurd h

pub goes_on_here : (l : LoaderState) → Continues l l
goes_on_here l = record { known = λ s h. h; exact = refl; faults = omega arith; strays = omega arith; honest = λ s h. refl }

pub goes_on_later : (a b c : LoaderState) → Continues a b → Continues b c → Continues a c
goes_on_later a b c f g = record {
  known = λ s h. g.known s (f.known s h);
  exact = g.exact ∙ f.exact;
  faults = omega (arith, f.faults, g.faults);
  strays = omega (arith, f.strays, g.strays);
  honest = λ s h. g.honest s (f.known s h) ∙ f.honest s h;
}

module _ (schema : SchemaData) (ps : List PolicyData) where
  -- one answer more
  pub answers_more : (old mid new : LoaderState) (qs : List Request) (answers : List BatchAnswer) (q : Request) (a : BatchAnswer) →
      AreLoaderAnswers schema ps old qs answers mid → Continues mid new → IsLoaderAnswer schema ps mid new q a →
      AreLoaderAnswers schema ps old (qs ++ q ∷ []) (answers ++ a ∷ []) new
  answers_more old mid new [] [] q a h on is =
      subst (λ (l : LoaderState). AreLoaderAnswers schema ps l (q ∷ []) (a ∷ []) new) (sym h) (new, on, is, refl)
  answers_more old mid new (p ∷ qs) (b ∷ answers) q a h on is =
      (h.0, h.1, h.2, answers_more h.0 mid new qs answers q a h.3 on is)
  answers_more old mid new [] (b ∷ answers) q a h on is = absurd h
  answers_more old mid new (p ∷ qs) [] q a h on is = absurd h

  pub goes_on : (old new : LoaderState) (qs : List Request) (answers : List BatchAnswer) →
      AreLoaderAnswers schema ps old qs answers new → Continues old new
  goes_on old new [] [] h = subst (Continues old) h (goes_on_here old)
  goes_on old new (q ∷ qs) (a ∷ answers) h = goes_on_later old h.0 new h.1 (goes_on h.0 new qs answers h.3)
  goes_on old new [] (a ∷ answers) h = absurd h
  goes_on old new (q ∷ qs) [] h = absurd h

  -- a fault that is answered is one that rose
  rose : (old mid : LoaderState) → Continues old mid → (q : Request) (a : BatchAnswer) → IsLoaderAnswer schema ps old mid q a →
      (is_fault a + old.faults ≤ mid.faults) ⊎ (2 ^ 64 ≤ mid.faults + 1)
  rose old mid on q Partial h = inl (omega (arith, on.faults))
  rose old mid on q (Refused e) h = inl (omega (arith, on.faults))
  rose old mid on q (Decided r) h = inl (omega (arith, on.faults))
  rose old mid on q (Loading error.LoaderFault) h = elim h.2 [
    | inl more ↦ inl (omega (arith, more))
    | inr last ↦ inr last
  ]
  rose old mid on q (Loading (error.IncompatibleEntityManifest e)) h = inl (omega (arith, on.faults))
  rose old mid on q (Loading (error.InconsistentLoader uid kept got)) h = inl (omega (arith, on.faults))
  rose old mid on q (Loading (error.WrongNumberOfEntities e)) h = inl (omega (arith, on.faults))
  rose old mid on q (Loading (error.WrongNumberOfAncestors n k)) h = inl (omega (arith, on.faults))
  rose old mid on q (Loading (error.PartialRequest e)) h = inl (omega (arith, on.faults))
  rose old mid on q (Loading error.OutOfMemory) h = inl (omega (arith, on.faults))

pub counted : FaultsAreCounted
counted schema ps old new [] [] h = let same = (goes_on schema ps old new [] [] h).faults in inl (omega (arith, same))
counted schema ps old new (q ∷ qs) (a ∷ answers) h =
    by (rose schema ps old h.0 h.1 q a h.2) (counted schema ps h.0 new qs answers h.3)
  where
    by : (is_fault a + old.faults ≤ h.0.faults) ⊎ (2 ^ 64 ≤ h.0.faults + 1) → AreCounted answers h.0.faults new.faults →
        AreCounted (a ∷ answers) old.faults new.faults
    by (inl x) (inl y) = inl (omega (arith, x, y))
    by (inr x) y = let more = (goes_on schema ps h.0 new qs answers h.3).faults in inr (omega (arith, x, more))
    by (inl x) (inr y) = inr y
counted schema ps old new [] (a ∷ answers) h = absurd h
counted schema ps old new (q ∷ qs) [] h = absurd h
