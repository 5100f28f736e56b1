-- What a capability is kept as, as plain data.
use Rattle.typing_spec.specs.Capability.{Access, Attribute, Tag}
use Rattle.typing_spec.specs.declared.capability.Known.{Known}
use Rattle.typing_spec.specs.declared.capability.Known.TheVariants as known

abbrev pub access_of : Known → Access
access_of (known.Attribute n) = Attribute n
access_of (known.BorrowedTag k) = Tag k.now
access_of (known.OwnedTag k) = Tag k
