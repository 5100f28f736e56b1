-- How faults of documents print.
use Rattle.std.specs.Prelude.{ℕ, List, ◌++◌, codes, decimal}
use Rattle.json_document.specs.PlaceText.{place_text}
use Rattle.json_document.specs.declared.place.Place.{Place}
use Rattle.json_document.specs.declared.place.Place.TheVariants.{Form, Policy, PolicyNested, PolicyDuplicate, UnknownTemplate, SlotMissing, SlotExtra}
use Rattle.edit_service.specs.declared.fault.EditFault.{EditFault}
use Rattle.edit_service.specs.declared.fault.EditFault.TheVariants as fault

-- that of policies before; the form is that there is no list of them
abbrev pub before_text : Place → List ℕ
before_text Form = codes "document: before"
before_text (Policy i) = codes "document: before[" ++ (decimal i ++ codes "]")
before_text (PolicyNested i) = codes "document: before[" ++ (decimal i ++ codes "]: nested deeper than 400")
before_text (PolicyDuplicate i) = codes "document: before[" ++ (decimal i ++ codes "]: duplicate id")
before_text (UnknownTemplate i) = codes "document: before[" ++ (decimal i ++ codes "]: unknown template")
before_text (SlotMissing i) = codes "document: before[" ++ (decimal i ++ codes "]: slot missing")
before_text (SlotExtra i) = codes "document: before[" ++ (decimal i ++ codes "]: slot extra")
before_text p = place_text p

-- that of policies after
abbrev pub policies_text : Place → List ℕ
policies_text Form = codes "document: policies"
policies_text p = place_text p

abbrev pub fault_text : EditFault → List ℕ
fault_text fault.Json = codes "document: json"
fault_text fault.Form = codes "document: form"
fault_text (fault.Schema p) = place_text p
fault_text (fault.Before p) = before_text p
fault_text (fault.Policies p) = policies_text p
