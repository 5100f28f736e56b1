-- What is kept of answers.
use Rattle.std.specs.Prelude.{◌≡◌, Option, Some, None}
use Rattle.entity_store.specs.Store.{StoredEntity}
use Rattle.reads_spec.specs.Merge.{merge_entities}
use Rattle.entity_loader.specs.declared.kept.KeepError.{KeepError}
use Rattle.entity_loader.specs.declared.kept.KeepError.TheVariants as error

-- what is kept with an answer more; none where they do not merge
abbrev pub kept_with : Option StoredEntity → StoredEntity → Option StoredEntity
kept_with None e = Some e
kept_with (Some known) e = merge_entities known e

-- two answers that do not merge: what is kept, and the one that was to be kept
abbrev pub WhyNotKept : Option StoredEntity → StoredEntity → KeepError → Type 0
WhyNotKept o e (error.DoNotMerge kept got) = (o ≡ Some kept) × (got ≡ e) × (merge_entities kept got ≡ None)
WhyNotKept o e error.OutOfMemory = Unit {0}
