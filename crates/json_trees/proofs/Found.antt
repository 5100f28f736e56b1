-- What is found in a tree.
use Rattle.std.proofs.Common.{◌≡◌, ℕ, List, Bool, true, false, ◌&&◌, cond, Option, Some, None, option_map, refl, sym, ap, ◌∙◌}
use Rattle.std.specs.List.{list_any}
use Rattle.std.specs.Ordering.{nat_cmp, match_ordering}
use Rattle.std.specs.Cmp.Lexicographic.{slice_cmp}
use Rattle.std.specs.declared.cmp.Ordering.{Ordering}
use Rattle.std.specs.declared.cmp.Ordering.TheVariants.{Less, Equal, Greater}
use Rattle.std.specs.FinMap.{nat_cmp-IsAntisymmetric, slice_cmp-IsAntisymmetric}
use Rattle.std.specs.Str.{bytes_eq}
use Rattle.std.proofs.lemmas.Slice.Eq.{bytes_eq-Decides}
use Rattle.std.proofs.lemmas.Bool.{false≢true}
use Rattle.json.specs.Json as json
use Rattle.json.specs.Json.{Json}
use Rattle.json.specs.Find as tree
use Rattle.serde_json.specs.Data.{Data, Num, null, number, Members, no_members, member, put}
use Rattle.serde_json.specs.Read.{number_of}
use Rattle.std.specs.Option.{option_map_or}
use Rattle.serde_json.specs.Find.{get, get_member}
use Rattle.serde_json.proofs.Views.{get_member-put, get_member-put_other}
use Rattle.json_values.specs.Json.{has_only}
use Rattle.json_trees.specs.Trees.{data_of, members_data}
use Rattle.plain_lemmas.proofs.Booleans.{and_exchange}

-- the first, or else the second
abbrev or_else : Option Data → Option Data → Option Data
or_else None p = p
or_else (Some d) p = Some d

found_in : (b : Bool) (k name : List ℕ) (j : Json) (found : Members) → bytes_eq k name ≡ b
    → get_member name (put k (data_of j) found) ≡ or_else (option_map data_of (cond b (Some j) None)) (get_member name found)
found_in true k name j found is =
    let same = (bytes_eq-Decides k name).0 is in
    ap (λ n. get_member n (put k (data_of j) found)) (sym same) ∙ get_member-put k (data_of j) found
found_in false k name j found is =
    get_member-put_other name k (data_of j) found (λ same. false≢true (sym is ∙ (bytes_eq-Decides k name).1 (sym same)))

last_of : (o : Option Json) (b : Bool) (k name : List ℕ) (j : Json) (found : Members) → bytes_eq k name ≡ b
    → or_else (option_map data_of o) (get_member name (put k (data_of j) found)) ≡ or_else (option_map data_of (tree.later_or o (cond b (Some j) None))) (get_member name found)
last_of None b k name j found is = found_in b k name j found is
last_of (Some i) b k name j found is = refl

members_found : (name : List ℕ) (ms : json.Members) (found : Members) → get_member name (members_data ms found) ≡ or_else (option_map data_of (tree.get_member name ms)) (get_member name found)
members_found name json.no_members found = refl
members_found name (json.member k j ms) found = members_found name ms (put k (data_of j) found) ∙ last_of (tree.get_member name ms) (bytes_eq k name) k name j found refl

or_nothing : (o : Option Data) → or_else o None ≡ o
or_nothing None = refl
or_nothing (Some d) = refl

-- what stands at a name
pub member_found : (name : List ℕ) (ms : json.Members) → option_map data_of (tree.get_member name ms) ≡ get_member name (members_data ms no_members)
member_found name ms = sym (members_found name ms no_members ∙ or_nothing (option_map data_of (tree.get_member name ms)))

no_member : (name : List ℕ) (o : Option Num) → None ≡ get name (option_map_or number o null)
no_member name None = refl
no_member name (Some n) = refl

-- the same of a whole tree
pub member_got : (name : List ℕ) (j : Json) → option_map data_of (tree.get name j) ≡ get name (data_of j)
member_got name json.null = refl
member_got name (json.boolean b) = refl
member_got name (json.number s) = no_member name (number_of s)
member_got name (json.string s) = refl
member_got name (json.array js) = refl
member_got name (json.object ms) = member_found name ms

pub same_texts : (k l : List ℕ) → slice_cmp nat_cmp k l ≡ Equal → k ≡ l
same_texts k l is = slice_cmp-IsAntisymmetric nat_cmp-IsAntisymmetric k l is

and_twice : (a b : Bool) → (a && b) ≡ (a && (a && b))
and_twice true b = refl
and_twice false b = refl

-- whether the members have but these names, with one more
put_has_only : (names : List (List ℕ)) (k : List ℕ) (d : Data) (ms : Members) → has_only names (put k d ms) ≡ (list_any (bytes_eq k) names && has_only names ms)
put_has_only names k d no_members = refl
put_has_only names k d (member l e ms) = at (slice_cmp nat_cmp k l) refl (put_has_only names k d ms) where
  at : (o : Ordering) → slice_cmp nat_cmp k l ≡ o → has_only names (put k d ms) ≡ (list_any (bytes_eq k) names && has_only names ms)
      → has_only names (match_ordering o (member k d (member l e ms)) (member l d ms) (member l e (put k d ms))) ≡ (list_any (bytes_eq k) names && has_only names (member l e ms))
  at Less is more = refl
  at Equal is more = rw (same_texts k l is) (and_twice (list_any (bytes_eq l) names) (has_only names ms))
  at Greater is more = ap (λ b. list_any (bytes_eq l) names && b) more ∙ and_exchange (list_any (bytes_eq l) names) (list_any (bytes_eq k) names) (has_only names ms)

-- whether each member of a tree has one of the names
abbrev pub names_only : List (List ℕ) → json.Members → Bool
names_only names json.no_members = true
names_only names (json.member k j ms) = list_any (bytes_eq k) names && names_only names ms

and_behind : (a b c : Bool) → (b && (a && c)) ≡ ((a && b) && c)
and_behind true b c = refl
and_behind false true c = refl
and_behind false false c = refl

-- the members of a tree have but these names where those found do
pub only_found : (names : List (List ℕ)) (ms : json.Members) (found : Members) → has_only names (members_data ms found) ≡ (names_only names ms && has_only names found)
only_found names json.no_members found = refl
only_found names (json.member k j ms) found = only_found names ms (put k (data_of j) found) ∙ ap (λ b. names_only names ms && b) (put_has_only names k (data_of j) found)
    ∙ and_behind (list_any (bytes_eq k) names) (names_only names ms) (has_only names found)

and_all : (b : Bool) → (b && true) ≡ b
and_all true = refl
and_all false = refl

pub object_only : (names : List (List ℕ)) (ms : json.Members) → has_only names (members_data ms no_members) ≡ names_only names ms
object_only names ms = only_found names ms no_members ∙ and_all (names_only names ms)
