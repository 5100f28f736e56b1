-- How places print.
use Rattle.std.specs.Prelude.{ℕ, List, ◌++◌, codes, decimal}
use Rattle.schema_core.specs.FaultText.{fault_text}
use Rattle.json_document.specs.declared.place.Place.{Place}
use Rattle.json_document.specs.declared.place.Place.TheVariants.{Json, Form, Schema, SchemaFault, Policy, PolicyNested, PolicyDuplicate, UnknownTemplate, SlotMissing, SlotExtra, Edit, EditNested, Entity, EntityDuplicate, EntityCycle, Request, RequestAt}

abbrev pub place_text : Place → List ℕ
place_text Json = codes "document: json"
place_text Form = codes "document: form"
place_text Schema = codes "document: schema"
place_text (SchemaFault f) = codes "document: schema: " ++ fault_text f
place_text (Policy i) = codes "document: policies[" ++ (decimal i ++ codes "]")
place_text (PolicyNested i) = codes "document: policies[" ++ (decimal i ++ codes "]: nested deeper than 400")
place_text (PolicyDuplicate i) = codes "document: policies[" ++ (decimal i ++ codes "]: duplicate id")
place_text (UnknownTemplate i) = codes "document: policies[" ++ (decimal i ++ codes "]: unknown template")
place_text (SlotMissing i) = codes "document: policies[" ++ (decimal i ++ codes "]: slot missing")
place_text (SlotExtra i) = codes "document: policies[" ++ (decimal i ++ codes "]: slot extra")
place_text (Edit i) = codes "document: edits[" ++ (decimal i ++ codes "]")
place_text (EditNested i) = codes "document: edits[" ++ (decimal i ++ codes "]: nested deeper than 400")
place_text (Entity i) = codes "document: entities[" ++ (decimal i ++ codes "]")
place_text (EntityDuplicate i) = codes "document: entities[" ++ (decimal i ++ codes "]: duplicate")
place_text (EntityCycle i) = codes "document: entities[" ++ (decimal i ++ codes "]: cycle")
place_text Request = codes "document: request"
place_text (RequestAt i) = codes "document: requests[" ++ (decimal i ++ codes "]")
