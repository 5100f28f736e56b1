-- Paths from which the next goes on say nothing: all their prefixes are prefixes of that one.
use Rattle.std.proofs.Common.{◌≡◌, ℕ, ◌<◌, ◌+◌, Bool, true, false, ◌||◌, ◌&&◌, List, [], ◌∷◌, map, drop, length, get_or, refl, sym, ap, ◌∙◌, arith}
use Rattle.std.proofs.lemmas.List.{at_drop_more}
use Rattle.std.specs.List.{list_any}
use Rattle.policy_values.specs.Ties.{equal_of}
use Rattle.access_tries.specs.Edges.{Address, edge_cmp, edge_eq}
use Rattle.access_tries.specs.EdgeLaws.{exact_edge}
use Rattle.access_tries.specs.Paths.{AccessPath, address_of, is_prefix_of}
use Rattle.access_tries.specs.Table.{Table}
use Rattle.access_tries.specs.Walks.{HaveSamePrefixes, IsOf}
use Rattle.plain_lemmas.proofs.Booleans.{and_parts_of}

prefix_more : (p q : Address) → is_prefix_of p q ≡ true → (es : Address) → is_prefix_of es p ≡ true → is_prefix_of es q ≡ true
prefix_more p q h [] k = refl
prefix_more [] q h (e ∷ es) k = absurd (cc)
prefix_more (a ∷ p) [] h (e ∷ es) k = absurd (cc)
prefix_more (a ∷ p) (b ∷ q) h (e ∷ es) k =
    let same = and_parts_of (edge_eq b a) (is_prefix_of p q) h in
    let prefix = and_parts_of (edge_eq a e) (is_prefix_of es p) k in
    λ i. (ap (λ z. edge_eq z e) (exact_edge b a (equal_of (edge_cmp b a) same.0)) ∙ prefix.0) i && prefix_more p q same.1 es prefix.1 i

absorbed : (a b c : Bool) → (a ≡ true → b ≡ true) → (b || c) ≡ (a || (b || c))
absorbed true b c h = ap (λ z. z || c) (h refl)
absorbed false b c h = refl

-- whether the address is a prefix of one of the paths
abbrev any_prefix : Address → List AccessPath → Bool
any_prefix es ps = list_any (is_prefix_of es) (map address_of ps)

one_more : (paths : List AccessPath) (i : ℕ) (p : AccessPath) → i < length paths → p ≡ get_or paths i p → (es : Address) → any_prefix es (drop i paths) ≡ (is_prefix_of es (address_of p) || any_prefix es (drop (i + 1) paths))
one_more paths i p lt is es = at_drop_more (any_prefix es) paths i p lt ∙ ap (λ z. is_prefix_of es (address_of z) || any_prefix es (drop (i + 1) paths)) (sym is)

pub next_left : (paths : List AccessPath) (i : ℕ) (p q : AccessPath) → i + 1 < length paths → p ≡ get_or paths i p → q ≡ get_or paths (i + 1) q
    → is_prefix_of (address_of p) (address_of q) ≡ true → HaveSamePrefixes (map address_of (drop (i + 1) paths)) (map address_of (drop i paths))
next_left paths i p q lt first next h es =
    let later = one_more paths (i + 1) q lt next es in
    let whole = one_more paths i p (omega (arith, lt)) first es in
    later ∙ absorbed (is_prefix_of es (address_of p)) (is_prefix_of es (address_of q)) (any_prefix es (drop (i + 1 + 1) paths)) (prefix_more (address_of p) (address_of q) h es)
    ∙ sym (whole ∙ ap (λ b. is_prefix_of es (address_of p) || b) later)

-- without marks a trie of addresses is one of others with the same prefixes
pub of_same_prefixes : (xs ys : List Address) (t : Table) → HaveSamePrefixes xs ys → IsOf xs false t → IsOf ys false t
of_same_prefixes xs ys t same is = record {
  paths = λ es. is.paths es ∙ same es;
  marks = λ es. is.marks es;
}
