-- Stores that are the same where paths stand are one once they are restricted to what is read.
use Rattle.std.proofs.Common.{◌≡◌, Bool, true, false, ◌&&◌, ◌||◌, List, [], ◌∷◌, map, refl, sym, ap, ◌∙◌, subst}
use Rattle.std.specs.Prelude.{if◌then◌else◌}
use Rattle.std.specs.List.{AllByRecursion, list_any}
use Rattle.std.specs.List.Sorted.{IsStrictlySortedBy}
use Rattle.std.specs.Option.{option_map}
use Rattle.std.specs.declared.cmp.Ordering.TheVariants.{Less}
use Rattle.std.proofs.lemmas.Bool.{and_parts}
use Rattle.policy_values.specs.declared.entity_uid.EntityUID.{EntityUID}
use Rattle.policy_values.specs.Uid.{uid_cmp, uid_cmp_total, exact_uid}
use Rattle.policy_values.specs.Value.{Val}
use Rattle.policy_values.proofs.SameSorted.{same_values}
use Rattle.entity_store.specs.declared.request.Request.{Request}
use Rattle.entity_store.specs.FromParents.{without_links}
use Rattle.entity_store.specs.Store.{StoredEntity, Store, entity_at}
use Rattle.reads_spec.specs.Among.{IsIn, IsPrefixOfRead}
use Rattle.reads_spec.specs.Paths.{Step, any_tag, Chain, steps_of, AccessPath, Demand, has_step, beyond}
use Rattle.reads_spec.specs.PathTypes.{is_declared_path}
use Rattle.reads_spec.specs.Reads.{reads_of, demands_of, are_declared, declared_reads, declared_demands}
use Rattle.reads_spec.specs.Restrict.{Keep, cut_entity, part, is_id, is_prefix, names_id, root_value, step, reach, keeps, kept_steps, kept_tag, by_paths, kept_ancestor, needed, restrict}
use Rattle.reads_spec.specs.Writes.{IsAscending, IsSameWhereReached, OtherWritesAreUnread}
use Rattle.reads_spec.proofs.Cuts.{entity_at-part}
use Rattle.reads_spec.proofs.DeclaredPaths.{declared_read}
use Rattle.reads_spec.proofs.Demanded.{demands_are_read}
use Rattle.reads_spec.proofs.Dropping.{any_alike}
use Rattle.reads_spec.proofs.Lists.{any_in}
use Rattle.reads_spec.proofs.Order.{entity_gone, in_filter_out}
use Rattle.reads_spec.proofs.Reaching.{AlongAlike, step_same, next_alike, leads_alike}
use Rattle.plain_lemmas.proofs.Lists.{append_empty}

-- ---- parts of stores by one choice

less_of_part : (k : Keep) (x : EntityUID) (es : Store) → AllByRecursion (λ y. uid_cmp x y ≡ Less) (map (λ e. e.uid) es) → AllByRecursion (λ y. uid_cmp x y ≡ Less) (map (λ e. e.uid) (part k es))
less_of_part k x [] h = tt
less_of_part k x (e ∷ es) h = here (k.chains e.uid []) (less_of_part k x es h.1)
  where
    here : (b : Bool) → AllByRecursion (λ y. uid_cmp x y ≡ Less) (map (λ e. e.uid) (part k es)) → AllByRecursion (λ y. uid_cmp x y ≡ Less) (map (λ e. e.uid) (if b then cut_entity k e ∷ part k es else part k es))
    here true r = (h.0, r)
    here false r = r

first_ascends : (k : Keep) (e : StoredEntity) (es : Store) (b : Bool) → AllByRecursion (λ y. uid_cmp e.uid y ≡ Less) (map (λ f. f.uid) (part k es)) → IsAscending (part k es) → IsAscending (if b then cut_entity k e ∷ part k es else part k es)
unfolding IsStrictlySortedBy
first_ascends k e es true below h = (below, h)
first_ascends k e es false below h = h

part_ascends : (k : Keep) (es : Store) → IsAscending es → IsAscending (part k es)
unfolding IsStrictlySortedBy
part_ascends k [] h = tt
part_ascends k (e ∷ es) h = first_ascends k e es (k.chains e.uid []) (less_of_part k e.uid es h.0) (part_ascends k es h.1)

-- with the same entities where the choice keeps them they are one
same_parts : (k : Keep) (s t : Store) → IsAscending s → IsAscending t → ((x : EntityUID) → k.chains x [] ≡ true → entity_at t x ≡ entity_at s x) → part k t ≡ part k s
same_parts k s t of_s of_t same = same_values uid_cmp uid_cmp_total exact_uid (λ e. e.uid) (part k t) (part k s) (part_ascends k t of_t) (part_ascends k s of_s) at
  where
    at : (x : EntityUID) → entity_at (part k t) x ≡ entity_at (part k s) x
    at x = here (k.chains x []) refl
      where
        here : (b : Bool) → k.chains x [] ≡ b → entity_at (part k t) x ≡ entity_at (part k s) x
        here true h = entity_at-part k t x h ∙ ap (option_map (cut_entity k)) (same x h) ∙ sym (entity_at-part k s x h)
        here false h = entity_gone k t x h ∙ sym (entity_gone k s x h)

-- ---- what is kept

keeps_same : (s t : Store) (x : EntityUID) (cs ns : List Step) (v : Val) → AlongAlike s t ns v → keeps t x cs ns v ≡ keeps s x cs ns v
keeps_same s t x cs [] v at = refl
keeps_same s t x cs (n ∷ ns) v at =
    let rest : list_any (keeps t x cs ns) (step t v n) ≡ list_any (keeps s x cs ns) (step s v n) =
    ap (λ ws. list_any (keeps t x cs ns) ws) (step_same s t v n ns at)
    ∙ any_alike (keeps t x cs ns) (keeps s x cs ns) (step s v n) (λ w i. keeps_same s t x cs ns w (next_alike s t n ns v w at i)) in
    ap (λ b. (is_id x v && is_prefix cs (n ∷ ns)) || b) rest

module _ (ps : List AccessPath) (q : Request) (s t : Store) (same : IsSameWhereReached ps q s t) where
  kept_same : (x : EntityUID) (cs : List Step) → kept_steps ps q t x cs ≡ kept_steps ps q s x cs
  kept_same x cs = any_alike (λ p. keeps t x cs p.steps (root_value q p.root)) (λ p. keeps s x cs p.steps (root_value q p.root)) ps
      (λ p i. keeps_same s t x cs p.steps (root_value q p.root) (λ y k. ap (option_map without_links) (same y (any_in (λ r. keeps s y [] r.steps (root_value q r.root)) p ps i k))))

  tag_same : (x : EntityUID) (c : Chain) → kept_tag ps q t x c ≡ kept_tag ps q s x c
  tag_same x [] = refl
  tag_same x (n ∷ c) = kept_same x (any_tag ∷ steps_of c)

  by_paths_same : by_paths ps q t ≡ by_paths ps q s
  by_paths_same = λ i. record { chains = λ x c. kept_same x (steps_of c) i; ancestors = λ x y. false; tags = λ x c. tag_same x c i }

  lead_same : (p : AccessPath) → (has_step p ≡ true → IsPrefixOfRead ps p) → reach t q p ≡ reach s q p
  lead_same p read = here p.steps refl
    where
      here : (ns : List Step) → p.steps ≡ ns → reach t q p ≡ reach s q p
      here [] e = rw e refl
      here (n ∷ ns) e = leads_alike ps q s t (λ x k. ap (option_map without_links) (same x k)) p (read (ap (λ z. has_step (record { root = p.root; steps = z })) e))

  module _ (of_s : IsAscending s) (of_t : IsAscending t) where
    paths_same : part (by_paths ps q t) t ≡ part (by_paths ps q s) s
    paths_same = ap (λ k. part k t) by_paths_same ∙ same_parts (by_paths ps q s) s t of_s of_t same

    module _ (ds : List Demand) (read : (d : Demand) → IsIn d ds → has_step d.0 ≡ true → IsPrefixOfRead ps d.0) where
      asked_same : (x y : EntityUID) → kept_ancestor ps ds q t x y ≡ kept_ancestor ps ds q s x y
      asked_same x y = any_alike
          (λ d. list_any (is_id x) (reach t q d.0) && list_any (names_id y) (reach (part (by_paths ps q t) t) q d.1))
          (λ d. list_any (is_id x) (reach s q d.0) && list_any (names_id y) (reach (part (by_paths ps q s) s) q d.1))
          ds (λ d i j. list_any (is_id x) (lead_same d.0 (read d i) j) && list_any (names_id y) (reach (paths_same j) q d.1))

      needed_same : needed ps ds q t ≡ needed ps ds q s
      needed_same = λ i. record {
        chains = λ x c. kept_same x (steps_of c) i;
        ancestors = λ x y. kept_same x [] i && asked_same x y i;
        tags = λ x c. tag_same x c i;
      }

      restrict_same : restrict ps ds q t ≡ restrict ps ds q s
      restrict_same = ap (λ k. part k t) needed_same ∙ same_parts (needed ps ds q s) s t of_s of_t same

-- ---- of conditions

pub unread : {B : Type 0} → OtherWritesAreUnread B
unread d g ts q s t of_s of_t same = restrict_same (declared_reads d g ts) q s t same of_s of_t (declared_demands d g ts) read
  where
    whole : (p : AccessPath) → beyond p [] ≡ p
    whole p = λ i. record { root = p.root; steps = append_empty p.steps i }

    read : (e : Demand) → IsIn e (declared_demands d g ts) → has_step e.0 ≡ true → IsPrefixOfRead (declared_reads d g ts) e.0
    read e i k =
        let f = in_filter_out (are_declared d g) e (demands_of ts) i in
        let declared = and_parts (is_declared_path d g e.0) (is_declared_path d g e.1) f.1 in
        (declared_read d g (reads_of d g ts) e.0).1
        (record { rest = []; among = subst (λ p. IsIn p (reads_of d g ts)) (sym (whole e.0)) ((demands_are_read d g ts e f.0).0 k) }, declared.0)
