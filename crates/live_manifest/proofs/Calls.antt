-- Calls are edits, but for those without memory.
use Rattle.std.proofs.Common.{◌≡◌, Bool, true, false, cond, List, [], ◌∷◌, map, refl}
use Rattle.std.specs.Prelude.{filter, not}
use Rattle.schema_core.specs.Schema.{SchemaData}
use Rattle.policy_set.specs.PolicySet.{PolicySetData}
use Rattle.live_manifest.specs.Calls.{Call, CallsAreEdits, after_calls, after_try, edits_done}
use Rattle.live_manifest.specs.Edits.{after_edit, after_edits}

pub calls_are_edits : CallsAreEdits
calls_are_edits schema s [] = refl
calls_are_edits schema s (c ∷ cs) = by c.out_of_memory (calls_are_edits schema s cs) (calls_are_edits schema (after_edit schema s c.edit) cs)
  where
    by : (b : Bool) → after_calls schema s cs ≡ after_edits schema s (edits_done cs) → after_calls schema (after_edit schema s c.edit) cs ≡ after_edits schema (after_edit schema s c.edit) (edits_done cs) → after_calls schema (after_try schema b s c.edit) cs ≡ after_edits schema s (map (λ d. d.edit) (cond (not b) (c ∷ filter (λ d. not d.out_of_memory) cs) (filter (λ d. not d.out_of_memory) cs)))
    by true h k = h
    by false h k = k
