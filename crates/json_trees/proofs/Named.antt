-- The members of a tree by their names.
use Rattle.std.proofs.Common.{◌≡◌, ℕ, zero, suc, ◌<◌, length, slice_index_or, arith, List, [], ◌∷◌, Bool, true, false, not, Option, Some, None, option_map, Ordering, Less, Equal, Greater, refl, sym, ◌∙◌, Bor, bytes_eq, nat_cmp}
use Rattle.std.specs.Cmp.Lexicographic.{slice_cmp}
use Rattle.std.specs.Ordering.{match_ordering}
use Rattle.std.specs.BTreeMap.{insert_entry}
use Rattle.std.proofs.lemmas.Slice.Eq.{bytes_eq-Decides}
use Rattle.std.proofs.lemmas.Cmp.{nat_list_cmp_total, tied_itself}
use Rattle.json.specs.Json as json
use Rattle.json.specs.declared.value.Value.{Value}
use Rattle.serde_json.specs.Data.{Data, Members, no_members, member, put}
use Rattle.json_values.specs.Json.{only_member}
use Rattle.json_trees.specs.Places.{is_other, placed_view, said_at}
use Rattle.json_trees.specs.Trees.{data_of, members_data, tree_view}
use Rattle.json_trees.proofs.Found.{same_texts}

abbrev pub Borrowed : Type 0 → Type 0
Borrowed A = Bor (List ℕ) × Bor (Value A)

abbrev pub Entry : Type 0
Entry = Bor (List ℕ) × ℕ

placed_at : {A : Type 0} (ms : List (Bor (List ℕ) × Value A)) (o : Ordering) (a b c : List Entry) → placed_view ms (match_ordering o a b c) ≡ match_ordering o (placed_view ms a) (placed_view ms b) (placed_view ms c)
placed_at ms Less a b c = refl
placed_at ms Equal a b c = refl
placed_at ms Greater a b c = refl

-- to insert a place is to put what stands there
pub placed_insert : {A : Type 0} (ms : List (Bor (List ℕ) × Value A)) (es : List Entry) (k : Bor (List ℕ)) (i : ℕ)
    → placed_view ms (insert_entry (λ x y. slice_cmp nat_cmp x.now y.now) es k i) ≡ put k.now (said_at ms i) (placed_view ms es)
placed_insert ms [] k i = refl
placed_insert ms (e ∷ es) k i = placed_at ms (slice_cmp nat_cmp k.now e.0.now) _ _ _ ∙ rw (placed_insert ms es k i)

-- what stands at a place
pub said_there : {A : Type 0} (ms : List (Bor (List ℕ) × Value A)) (i : ℕ) (d : Bor (List ℕ) × Value A) → i < length ms → said_at ms i ≡ tree_view (slice_index_or ms i d).1
said_there [] i d h = absurd (omega arith)
said_there (m ∷ ms) zero d h = refl
said_there (m ∷ ms) (suc i) d h = said_there ms i d (omega arith)

-- the one member that was found
abbrev pub lone : {A : Type 0} → Option (Borrowed A) → Members
lone None = no_members
lone (Some m) = member m.0.now (tree_view m.1.now) no_members

pub only_lone : {A : Type 0} (o : Option (Borrowed A)) → option_map (λ m. (m.0.now, tree_view m.1.now)) o ≡ only_member (lone o)
only_lone None = refl
only_lone (Some m) = refl

-- there are two or more
abbrev pub are_many : Members → Bool
are_many no_members = false
are_many (member k d no_members) = false
are_many (member k d (member l e ms)) = true

put_more : (k l : List ℕ) (d e : Data) (ms : Members) → are_many (member l e (put k d ms)) ≡ true
put_more k l d e no_members = refl
put_more k l d e (member m f ms) = by (slice_cmp nat_cmp k m) where
  by : (o : Ordering) → are_many (member l e (match_ordering o (member k d (member m f ms)) (member m d ms) (member m f (put k d ms)))) ≡ true
  by Less = refl
  by Equal = refl
  by Greater = refl

put_many : (k : List ℕ) (d : Data) (ms : Members) → are_many ms ≡ true → are_many (put k d ms) ≡ true
put_many k d no_members e = cc
put_many k d (member l f no_members) e = cc
put_many k d (member l f (member m g ms)) e = by (slice_cmp nat_cmp k l) where
  by : (o : Ordering) → are_many (match_ordering o (member k d (member l f (member m g ms))) (member l d (member m g ms)) (member l f (put k d (member m g ms)))) ≡ true
  by Less = refl
  by Equal = refl
  by Greater = put_more k l d f (member m g ms)

data_many : (ms : json.Members) (found : Members) → are_many found ≡ true → are_many (members_data ms found) ≡ true
data_many json.no_members found e = e
data_many (json.member k j ms) found e = data_many ms (put k (data_of j) found) (put_many k (data_of j) found e)

none_of_many : (ms : Members) → are_many ms ≡ true → None ≡ only_member ms
none_of_many no_members e = refl
none_of_many (member k d no_members) e = cc
none_of_many (member k d (member l f ms)) e = refl

put_other : (k l : List ℕ) (d f : Data) → (k ≡ l → ⊥) → are_many (put k d (member l f no_members)) ≡ true
put_other k l d f other = by (slice_cmp nat_cmp k l) refl where
  by : (o : Ordering) → slice_cmp nat_cmp k l ≡ o → are_many (match_ordering o (member k d (member l f no_members)) (member l d no_members) (member l f (member k d no_members))) ≡ true
  by Less e = refl
  by Equal e = absurd (other (same_texts k l e))
  by Greater e = refl

-- where a member has another name than the one before, there is not one member alone
pub none_beside : {A : Type 0} (k : List ℕ) (j : json.Json) (ms : json.Members) (o : Option (Borrowed A)) → is_other (option_map (λ m. m.0.now) o) k ≡ true → None ≡ only_member (members_data (json.member k j ms) (lone o))
none_beside k j ms None e = cc
none_beside k j ms (Some m) e = none_of_many _ (data_many ms _ (put_other k m.0.now (data_of j) (tree_view m.1.now) (λ (same : k ≡ m.0.now). differ (bytes_eq m.0.now k) e ((bytes_eq-Decides m.0.now k).1 (sym same))))) where
  differ : (b : Bool) → not b ≡ true → b ≡ true → ⊥
  differ true e f = cc
  differ false e f = cc

same_text : (xs : List ℕ) → slice_cmp nat_cmp xs xs ≡ Equal
same_text xs = tied_itself nat_list_cmp_total xs

-- where it has the same name, it stays in the place of that one
pub put_lone : {A : Type 0} (k : List ℕ) (d : Data) (o : Option (Borrowed A)) → is_other (option_map (λ m. m.0.now) o) k ≡ false → put k d (lone o) ≡ member k d no_members
put_lone k d None e = refl
put_lone k d (Some m) e =
    let same : m.0.now ≡ k = (bytes_eq-Decides m.0.now k).0 (same_by (bytes_eq m.0.now k) e) in
    rw (same, same_text k) refl where
      same_by : (b : Bool) → not b ≡ false → b ≡ true
      same_by true e = refl
      same_by false e = cc
