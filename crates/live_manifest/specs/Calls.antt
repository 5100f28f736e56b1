-- Calls one after another.
use Rattle.std.specs.Prelude.{◌≡◌, Bool, true, false, not, List, [], ◌∷◌, map, filter}
use Rattle.schema_core.specs.Schema.{SchemaData}
use Rattle.policy_set.specs.PolicySet.{PolicySetData}
use Rattle.live_manifest.specs.Edits.{Edit, after_edit, after_edits}

-- an edit that is asked for, and whether there was no memory for it
pub record Call : Type 0 where
  pub edit : Edit
  pub out_of_memory : Bool

-- the edits for which there was memory
abbrev pub edits_done : List Call → List Edit
edits_done cs = map (λ c. c.edit) (filter (λ c. not c.out_of_memory) cs)

module _ (schema : SchemaData) where
  -- a call makes its edit, if that is not refused; without memory it changes nothing
  abbrev pub after_try : Bool → PolicySetData → Edit → PolicySetData
  after_try true s e = s
  after_try false s e = after_edit schema s e

  abbrev pub after_calls : PolicySetData → List Call → PolicySetData
  after_calls s [] = s
  after_calls s (c ∷ cs) = after_calls (after_try c.out_of_memory s c.edit) cs

-- after any calls the policies are those after the edits for which there was memory
abbrev pub CallsAreEdits : Type 0
CallsAreEdits = (schema : SchemaData) (s : PolicySetData) (cs : List Call) →
    after_calls schema s cs ≡ after_edits schema s (edits_done cs)
