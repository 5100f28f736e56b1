-- What one more part of a circuit changes.
use Rattle.std.proofs.Common.{◌≡◌, ◌+◌, ℕ, Bool, false, List, [], ◌∷◌, ◌++◌, length, refl, sym, ap, ◌∙◌, arith, length-append, slice_index_or}
use Rattle.std.proofs.Math.ListN.{get_or-append}
use Rattle.std.proofs.Math.Seq.{get_or-append_seam}
use Rattle.propositions.specs.declared.circuit.Gate.{Gate}
use Rattle.propositions.specs.Circuits.{gate_holds, values_after, values, holds, Adds}

values_after-append : (v : ℕ → Bool) (bs : List Bool) (gs hs : List Gate) → values_after v bs (gs ++ hs) ≡ values_after v (values_after v bs gs) hs
values_after-append v bs [] hs = refl
values_after-append v bs (g ∷ gs) hs = values_after-append v (bs ++ gate_holds v bs g ∷ []) gs hs

length-values_after : (v : ℕ → Bool) (bs : List Bool) (gs : List Gate) → length (values_after v bs gs) ≡ length bs + length gs
length-values_after v bs [] = omega arith
length-values_after v bs (g ∷ gs) = omega (arith, length-values_after v (bs ++ gate_holds v bs g ∷ []) gs, length-append bs (gate_holds v bs g ∷ []))

length-values : (v : ℕ → Bool) (gs : List Gate) → length (values v gs) ≡ length gs
length-values v gs = omega (arith, length-values_after v [] gs)

pub adds : (old new : List Gate) (g : Gate) (n : ℕ) → new ≡ old ++ g ∷ [] → n ≡ length old → Adds old new (λ v. gate_holds v (values v old) g) n
unfolding holds
adds old new g n is at = record {
  keeps = record {
    longer = omega (arith, ap length is, length-append old (g ∷ []));
    same = λ v k lt. ap (λ bs. slice_index_or bs k false) (all v) ∙ get_or-append (values v old) (gate_holds v (values v old) g ∷ []) false k (omega (arith, length-values v old, lt));
  };
  within = omega (arith, ap length is, length-append old (g ∷ []), at);
  says = λ v. ap (λ bs. slice_index_or bs n false) (all v)
      ∙ ap (λ k. slice_index_or (values v old ++ gate_holds v (values v old) g ∷ []) k false) (at ∙ sym (length-values v old))
      ∙ get_or-append_seam (values v old) (gate_holds v (values v old) g) [] false;
}
  where
    all : (v : ℕ → Bool) → values v new ≡ values v old ++ gate_holds v (values v old) g ∷ []
    all v = ap (values v) is ∙ values_after-append v [] old (g ∷ [])
