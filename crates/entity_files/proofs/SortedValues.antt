-- What is read of JSON values in which names ascend is in order.
use Rattle.std.proofs.Common.{◌≡◌, ℕ, List, Bool, true, false, Option, Some, None, ℤ}
use Rattle.std.specs.Prelude.{IfSome, option_map, if◌then◌else◌, codes}
use Rattle.std.specs.Str.{bytes_eq}
use Rattle.std.specs.declared.cmp.Ordering.TheVariants.{Less}
use Rattle.serde_json.specs.Data as json
use Rattle.serde_json.specs.Data.{Data, Num, Items, Members}
use Rattle.serde_json.specs.Find.{as_i64}
use Rattle.policy_values.specs.Value.{Val, long, entity, set, rec, decimal, ip, datetime, duration, fields_of}
use Rattle.policy_values.specs.Uid.{text_cmp}
use Rattle.policy_values.specs.ValueOrder.{set_of}
use Rattle.policy_values.specs.Readings.{decimal_in, range_in, datetime_in, duration_in}
use Rattle.json_values.specs.Names.{uid_of}
use Rattle.json_values.specs.Lists.{with_field}
use Rattle.json_values.specs.Values.{text_form, time_form, extension_form, value_form, value_of, values_of, value_of_members, value_fields_of, value_entries_of}
use Rattle.reads_spec.specs.Merge.{IsBelowAll, IsOrdered, AreOrdered}
use Rattle.entity_files.proofs.SortedJson as sorted

anything : {A B : Type 0} (Q : B → Type 0) (f : A → B) → ((x : A) → Q (f x)) → (o : Option A) → IfSome (option_map f o) Q
anything Q f g None = tt
anything Q f g (Some x) = g x

text_ordered : {X : Type 0} (make : X → Val) (read : List ℕ → Option X) → ((x : X) → IsOrdered (make x)) → (d : Data) → IfSome (text_form make read d) IsOrdered
text_ordered make read g json.null = tt
text_ordered make read g (json.boolean b) = tt
text_ordered make read g (json.number n) = tt
text_ordered make read g (json.string t) = anything IsOrdered make g (read t)
text_ordered make read g (json.array ds) = tt
text_ordered make read g (json.object ms) = tt

time_ordered : (make : ℤ → Val) (read : List ℕ → Option ℤ) → ((x : ℤ) → IsOrdered (make x)) → (d : Data) → IfSome (time_form make read d) IsOrdered
time_ordered make read g json.null = tt
time_ordered make read g (json.boolean b) = tt
time_ordered make read g (json.number n) = anything IsOrdered make g (as_i64 n)
time_ordered make read g (json.string t) = anything IsOrdered make g (read t)
time_ordered make read g (json.array ds) = tt
time_ordered make read g (json.object ms) = tt

chosen : (b : Bool) (x y : Option Val) → IfSome x IsOrdered → IfSome y IsOrdered → IfSome (if b then x else y) IsOrdered
chosen true x y p q = p
chosen false x y p q = q

extension_ordered : (key : List ℕ) (d : Data) → IfSome (extension_form key d) IsOrdered
unfolding extension_form
extension_ordered key d =
    chosen (bytes_eq key (codes "decimal")) _ _ (text_ordered decimal decimal_in (λ x. tt) d)
    (chosen (bytes_eq key (codes "ip")) _ _ (text_ordered ip range_in (λ x. tt) d)
    (chosen (bytes_eq key (codes "datetime")) _ _ (time_ordered datetime datetime_in (λ x. tt) d)
    (chosen (bytes_eq key (codes "duration")) _ _ (time_ordered duration duration_in (λ x. tt) d) tt)))

record_ordered : (o : Option (List (List ℕ × Val))) → IfSome o (λ es. AreOrdered (fields_of es)) → IfSome (option_map (λ es. rec (fields_of es)) o) IsOrdered
record_ordered None h = tt
record_ordered (Some es) h = h

form_ordered : (key : List ℕ) (d : Data) (o : Option (List (List ℕ × Val))) → IfSome o (λ es. AreOrdered (fields_of es)) → IfSome (value_form key d o) IsOrdered
form_ordered key d o h =
    chosen (bytes_eq key (codes "id")) _ _ (anything IsOrdered entity (λ x. tt) (uid_of d))
    (chosen (bytes_eq key (codes "record")) _ _ (record_ordered o h) (extension_ordered key d))

below_first : (k l : List ℕ) (v : Option Val) (o : Option (List (List ℕ × Val))) → text_cmp k l ≡ Less → IfSome o (λ es. IsBelowAll k (fields_of es)) → IfSome (with_field l v o) (λ es. IsBelowAll k (fields_of es))
below_first k l None o h b = tt
below_first k l (Some v) None h b = tt
below_first k l (Some v) (Some es) h b = (h, b)

entries_below : (k : List ℕ) (ms : Members) → sorted.IsBelowAll k ms → IfSome (value_entries_of ms) (λ es. IsBelowAll k (fields_of es))
entries_below k json.no_members b = tt
entries_below k (json.member l d ms) b = below_first k l (value_of d) (value_entries_of ms) b.0 (entries_below k ms b.1)

entry_ordered : (k : List ℕ) (v : Option Val) (o : Option (List (List ℕ × Val))) → IfSome v IsOrdered → IfSome o (λ es. IsBelowAll k (fields_of es)) → IfSome o (λ es. AreOrdered (fields_of es)) → IfSome (with_field k v o) (λ es. AreOrdered (fields_of es))
entry_ordered k None o p b h = tt
entry_ordered k (Some v) None p b h = tt
entry_ordered k (Some v) (Some es) p b h = (b, p, h)

mutual
  pub value_ordered : (d : Data) → sorted.IsSorted d → IfSome (value_of d) IsOrdered
  value_ordered json.null s = tt
  value_ordered (json.boolean b) s = tt
  value_ordered (json.number n) s = anything IsOrdered long (λ x. tt) (as_i64 n)
  value_ordered (json.string t) s = tt
  value_ordered (json.array ds) s = anything IsOrdered (λ vs. set (set_of vs)) (λ x. tt) (values_of ds)
  value_ordered (json.object ms) s = members_ordered ms s

  members_ordered : (ms : Members) → sorted.HasSorted ms → IfSome (value_of_members ms) IsOrdered
  members_ordered json.no_members s = tt
  members_ordered (json.member k d json.no_members) s = form_ordered k d (value_fields_of d) (fields_ordered d s.0)
  members_ordered (json.member k d (json.member l e ms)) s = tt

  pub fields_ordered : (d : Data) → sorted.IsSorted d → IfSome (value_fields_of d) (λ es. AreOrdered (fields_of es))
  fields_ordered json.null s = tt
  fields_ordered (json.boolean b) s = tt
  fields_ordered (json.number n) s = tt
  fields_ordered (json.string t) s = tt
  fields_ordered (json.array ds) s = tt
  fields_ordered (json.object ms) s = entries_ordered ms s

  entries_ordered : (ms : Members) → sorted.HasSorted ms → IfSome (value_entries_of ms) (λ es. AreOrdered (fields_of es))
  entries_ordered json.no_members s = tt
  entries_ordered (json.member k d ms) s = entry_ordered k (value_of d) (value_entries_of ms) (value_ordered d s.0) (entries_below k ms s.1) (entries_ordered ms s.2)
