-- What is read as JSON has ascending names in its objects.
use Rattle.std.proofs.Common.{◌≡◌, ℕ, List, Option, Some, None, refl, ap, ◌∙◌}
use Rattle.std.specs.Prelude.{IfSome, option_map, option_and_then}
use Rattle.std.specs.declared.cmp.Ordering.{Ordering}
use Rattle.std.specs.declared.cmp.Ordering.TheVariants.{Less, Equal, Greater}
use Rattle.std.specs.Ordering.{nat_cmp, match_ordering, ordering_reverse}
use Rattle.std.specs.Cmp.Lexicographic.{slice_cmp, nat_list_cmp_total}
use Rattle.json.specs.Json as json
use Rattle.json.specs.Lex.{tokens}
use Rattle.serde_json.specs.Data.{Data, number, array, object, Items, no_items, item, Members, no_members, member, put}
use Rattle.serde_json.specs.Read.{max_depth, of_json, of_items, of_members, number_of, read}

-- the name comes before all those of the members
abbrev pub IsBelowAll : List ℕ → Members → Type 0
IsBelowAll k no_members = Unit {0}
IsBelowAll k (member l d ms) = (slice_cmp nat_cmp k l ≡ Less) × IsBelowAll k ms

-- in the value, and in each value inside, names ascend
abbrev mutual
  pub IsSorted : Data → Type 0
  IsSorted (array ds) = AreSorted ds
  IsSorted (object ms) = HasSorted ms
  IsSorted d = Unit {0}

  pub AreSorted : Items → Type 0
  AreSorted no_items = Unit {0}
  AreSorted (item d ds) = IsSorted d × AreSorted ds

  pub HasSorted : Members → Type 0
  HasSorted no_members = Unit {0}
  HasSorted (member k d ms) = IsSorted d × IsBelowAll k ms × HasSorted ms

abbrev pub ReadsAreSorted : Type 0
ReadsAreSorted = (text : List ℕ) → IfSome (read text) IsSorted

abbrev cmp : List ℕ → List ℕ → Ordering
cmp = slice_cmp nat_cmp

below_all : (k l : List ℕ) → cmp k l ≡ Less → (ms : Members) → IsBelowAll l ms → IsBelowAll k ms
below_all k l h no_members b = tt
below_all k l h (member m d ms) b = (nat_list_cmp_total.trans k l m h b.0, below_all k l h ms b.1)

turned : (k l : List ℕ) → cmp k l ≡ Greater → cmp l k ≡ Less
turned k l h = nat_list_cmp_total.antisymm l k ∙ ap ordering_reverse h

below_put : (k l : List ℕ) → cmp k l ≡ Less → (d : Data) (ms : Members) → IsBelowAll k ms → IsBelowAll k (put l d ms)
below_put k l h d no_members b = (h, tt)
below_put k l h d (member m e ms) b = by (below_put k l h d ms b.1) (cmp l m)
  where
    by : IsBelowAll k (put l d ms) → (o : Ordering) → IsBelowAll k (match_ordering o (member l d (member m e ms)) (member m d ms) (member m e (put l d ms)))
    by rest Less = (h, b)
    by rest Equal = b
    by rest Greater = (b.0, rest)

put_sorted : (k : List ℕ) (d : Data) → IsSorted d → (ms : Members) → HasSorted ms → HasSorted (put k d ms)
put_sorted k d s no_members h = (s, tt, tt)
put_sorted k d s (member l e ms) h = by (put_sorted k d s ms h.2) (cmp k l) refl
  where
    by : HasSorted (put k d ms) → (o : Ordering) → cmp k l ≡ o → HasSorted (match_ordering o (member k d (member l e ms)) (member l d ms) (member l e (put k d ms)))
    by rest Less is = (s, (is, below_all k l is ms h.1), h)
    by rest Equal is = (s, h.1, h.2)
    by rest Greater is = (h.0, below_put l k (turned k l is) d ms h.1, rest)

-- under a map that keeps it
mapped : {A B : Type 0} (P : A → Type 0) (Q : B → Type 0) (f : A → B) → ((x : A) → P x → Q (f x)) → (o : Option A) → IfSome o P → IfSome (option_map f o) Q
mapped P Q f g None h = tt
mapped P Q f g (Some x) h = g x h

anything : {A B : Type 0} (Q : B → Type 0) (f : A → B) → ((x : A) → Q (f x)) → (o : Option A) → IfSome (option_map f o) Q
anything Q f g None = tt
anything Q f g (Some x) = g x

then : {A B : Type 0} (P : A → Type 0) (Q : B → Type 0) (f : A → Option B) → ((x : A) → P x → IfSome (f x) Q) → (o : Option A) → IfSome o P → IfSome (option_and_then f o) Q
then P Q f g None h = tt
then P Q f g (Some x) h = g x h

mutual
  value_sorted : (j : json.Json) → IfSome (of_json j) IsSorted
  value_sorted json.null = tt
  value_sorted (json.boolean b) = tt
  value_sorted (json.number s) = anything IsSorted number (λ n. tt) (number_of s)
  value_sorted (json.string s) = tt
  value_sorted (json.array js) = mapped AreSorted IsSorted array (λ ds h. h) (of_items js) (items_sorted js)
  value_sorted (json.object ms) = mapped HasSorted IsSorted object (λ ns h. h) (of_members ms no_members) (members_sorted ms no_members tt)

  items_sorted : (js : json.Items) → IfSome (of_items js) AreSorted
  items_sorted json.no_items = tt
  items_sorted (json.item j js) = then IsSorted AreSorted (λ d. option_map (item d) (of_items js))
      (λ d s. mapped AreSorted AreSorted (item d) (λ ds h. (s, h)) (of_items js) (items_sorted js)) (of_json j) (value_sorted j)

  members_sorted : (ms : json.Members) (found : Members) → HasSorted found → IfSome (of_members ms found) HasSorted
  members_sorted json.no_members found h = h
  members_sorted (json.member k j ms) found h = then IsSorted HasSorted (λ d. of_members ms (put k d found))
      (λ d s. members_sorted ms (put k d found) (put_sorted k d s found h)) (of_json j) (value_sorted j)

some_json : (o : Option json.Json) → IfSome (option_and_then of_json o) IsSorted
some_json None = tt
some_json (Some j) = value_sorted j

pub sorted : ReadsAreSorted
sorted text = some_json (option_and_then (λ p. json.if_last p.0 p.1) (json.value max_depth (tokens text)))
