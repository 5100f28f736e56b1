use Rattle.entity_files.proofs.files.open.Goals as goal

pub over-requires : goal.over-requires
over-requires g c clean = (c.in_ok-connect.ensures.opened clean).0
