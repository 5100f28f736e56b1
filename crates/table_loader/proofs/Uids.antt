-- Ids that compare equal.
use Rattle.std.proofs.Common.{◌≡◌, true, ap}
use Rattle.std.specs.Ordering.{is_eq}
use Rattle.std.proofs.lemmas.Cmp.{tied_itself}
use Rattle.policy_values.specs.Ties.{equal_of}
use Rattle.policy_values.specs.declared.entity_uid.EntityUID.{EntityUID}
use Rattle.policy_values.specs.Uid.{uid_cmp, uid_cmp_total, exact_uid, uid_eq}

pub same_uid : (x y : EntityUID) → uid_eq x y ≡ true → x ≡ y
same_uid x y h = exact_uid x y (equal_of (uid_cmp x y) h)

pub uid_eq-self : (x : EntityUID) → uid_eq x x ≡ true
uid_eq-self x = ap is_eq (tied_itself uid_cmp_total x)
