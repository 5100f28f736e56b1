-- What the hash of a type is of.
use Rattle.std.specs.Prelude.{◌++◌}
use Rattle.std.specs.Hash as fed
use Rattle.std.specs.Hash.{HashWrites}
use Rattle.schema_types.specs.Names.{texts_fed}
use Rattle.schema_types.specs.TyOrder.{place_of, open_place, rank}
use Rattle.schema_types.specs.Ty.{Ty, primitive, set_of, record_of, entity, action, extension, Attrs, no_attrs, attr}

abbrev mutual
  pub ty_fed : Ty → HashWrites
  ty_fed (primitive p) = fed.u8 3 ++ fed.u8 (place_of p)
  ty_fed (set_of t) = fed.u8 5 ++ ty_fed t
  ty_fed (record_of xs o) = fed.u8 6 ++ (attrs_fed xs ++ fed.u8 (open_place o))
  ty_fed (entity ns) = fed.u8 8 ++ texts_fed ns
  ty_fed (action n xs) = fed.u8 9 ++ (fed.str n ++ attrs_fed xs)
  ty_fed (extension n) = fed.u8 10 ++ fed.str n
  ty_fed t = fed.u8 (rank t)

  pub attrs_fed : Attrs → HashWrites
  attrs_fed no_attrs = fed.u8 0
  attrs_fed (attr k t q xs) = fed.u8 1 ++ (fed.str k ++ (ty_fed t ++ (fed.bool q ++ attrs_fed xs)))
