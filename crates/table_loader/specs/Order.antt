-- Values and entities in order: keys ascend in the value, in each record that is reached through records
-- (`IsOrdered`, `AreOrdered` of its fields), and ancestors ascend in the entity (`IsEntityOrdered`).
pub use Rattle.reads_spec.specs.Merge.{IsBelowAll, IsOrdered, AreOrdered, IsEntityOrdered}
