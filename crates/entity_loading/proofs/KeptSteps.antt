-- Honest answers are kept.
use Rattle.std.proofs.Common.{◌≡◌, ◌⊎◌, ℕ, zero, suc, ◌<◌, Bool, true, false, ◌&&◌, ◌||◌, List, [], ◌∷◌, ◌++◌, length, Option, Some, None, refl, sym, ap, ◌∙◌, subst, inl, inr, is_some, arith}
use Rattle.std.specs.Prelude.{if◌then◌else◌, filter, slice_get}
use Rattle.std.specs.List.{list_any}
use Rattle.std.specs.Option.{option_map}
use Rattle.std.proofs.lemmas.Bool.{and_parts, and_from, or_cases, false≢true}
use Rattle.policy_values.specs.declared.entity_uid.EntityUID.{EntityUID}
use Rattle.policy_values.specs.Uid.{uid_eq}
use Rattle.entity_store.specs.Store.{StoredEntity, Store, entity_at}
use Rattle.policy_values.specs.Value.{Val, truth, long, string, entity, set, rec, decimal, ip, datetime, duration, Fields, no_fields, field}
use Rattle.access_tries.specs.declared.edge.Edge.TheVariants.{Field, AnyTag}
use Rattle.access_tries.specs.Edges.{Address}
use Rattle.access_tries.specs.Table.{Table}
use Rattle.reads_spec.specs.Merge.{merge_entities, IsEntityOrdered}
use Rattle.reads_spec.specs.Paths.{Chain}
use Rattle.reads_spec.specs.Restrict.{Keep, cut, cut_fields, cut_entity}
use Rattle.reads_spec.proofs.Cuts.{uid_at}
use Rattle.reads_spec.proofs.Lists.{IsIn, any_in}
use Rattle.plain_lemmas.proofs.Booleans.{false_of_not_true, or_false, or_left_true, or_right_true}
use Rattle.reads_spec.proofs.Words.{any_out}
use Rattle.entity_loading.specs.Places.{node_of}
use Rattle.entity_loading.specs.Ordered.{HasOrder}
use Rattle.entity_loading.proofs.ReachSteps.{prefix_leads}
use Rattle.plain_lemmas.proofs.Lists.{any_weaker, is_some_within}
use Rattle.reads_spec.proofs.Merging.{merge_entities-cut}
use Rattle.reads_spec.proofs.Order.{IsClosed, cases, cut_fields-same, either_keep, IsWellFormed}
use Rattle.entity_loading.specs.Needs.{sees, needs}
use Rattle.entity_loading.specs.declared.place.Place.{Place}
use Rattle.entity_loader.specs.Answers.{IsHonest}
use Rattle.entity_loader.specs.Asked.{asked}
use Rattle.entity_loader.specs.declared.loader.EntityRequest.{EntityRequest}
use Rattle.entity_loading.specs.Keeping.{Found, kept_and}
use Rattle.entity_loading.specs.KeptPart.{left, along, IsKeptPart}
use Rattle.entity_loading.specs.Rounds.{AsksFor, AreHonestAt}

-- ---- a choice with each prefix of its chains

pub down : (Chain → Bool) → Chain → Bool
down k [] = true
down k (n ∷ c) = k (n ∷ []) && down (λ d. k (n ∷ d)) c

down_prefix : (k : Chain → Bool) (c rest : Chain) → down k (c ++ rest) ≡ true → down k c ≡ true
unfolding down
down_prefix k [] rest h = refl
down_prefix k (n ∷ c) rest h = let b = and_parts (k (n ∷ [])) (down (λ d. k (n ∷ d)) (c ++ rest)) h in and_from (k (n ∷ [])) (down (λ d. k (n ∷ d)) c) b.0 (down_prefix (λ d. k (n ∷ d)) c rest b.1)

down_closed : (k : Chain → Bool) → IsClosed (down k)
down_closed k = record { first = λ m c rest h. down_prefix k (m ∷ c) rest h }

down_first : (k : Chain → Bool) → down k [] ≡ true
unfolding down
down_first k = refl

down_less : (k : Chain → Bool) (n : List ℕ) (c : Chain) → down k (n ∷ c) ≡ true → k (n ∷ c) ≡ true
unfolding down
down_less k n [] h = (and_parts (k (n ∷ [])) true h).0
down_less k n (m ∷ c) h = down_less (λ d. k (n ∷ d)) m c (and_parts (k (n ∷ [])) (down (λ d. k (n ∷ d)) (m ∷ c)) h).1

-- chains whose prefixes are all chosen
down_from : (k : Chain → Bool) (c : Chain) → ((n : List ℕ) (d rest : Chain) → c ≡ (n ∷ d) ++ rest → k (n ∷ d) ≡ true) → down k c ≡ true
unfolding down
down_from k [] h = refl
down_from k (n ∷ c) h = and_from (k (n ∷ [])) (down (λ d. k (n ∷ d)) c) (h n [] c refl) (down_from (λ d. k (n ∷ d)) c (λ m d rest e. h n (m ∷ d) rest (ap (λ z. n ∷ z) e)))

mutual
  unfolding down

  cut_down : (v : Val) (k : Chain → Bool) → cut v (down k) ≡ cut v k
  cut_down (rec fs) k = ap rec (fields_down fs k)
  cut_down (entity y) k = refl
  cut_down (truth b) k = refl
  cut_down (long b) k = refl
  cut_down (string b) k = refl
  cut_down (set b) k = refl
  cut_down (decimal b) k = refl
  cut_down (ip b) k = refl
  cut_down (datetime b) k = refl
  cut_down (duration b) k = refl

  fields_down : (fs : Fields) (k : Chain → Bool) → cut_fields fs (down k) ≡ cut_fields fs k
  fields_down no_fields k = refl
  fields_down (field n v fs) k = by (cases (k (n ∷ []))) (cut_down v (λ d. k (n ∷ d))) (fields_down fs k)
    where
      by : (k (n ∷ []) ≡ true) ⊎ (k (n ∷ []) ≡ false) → cut v (down (λ d. k (n ∷ d))) ≡ cut v (λ d. k (n ∷ d)) → cut_fields fs (down k) ≡ cut_fields fs k → cut_fields (field n v fs) (down k) ≡ cut_fields (field n v fs) k
      by (inl i) e f = rw (i) (λ j. field n (e j) (f j))
      by (inr i) e f = rw (i) f

-- ---- what an answer leaves of an entity

pub record Mask (exact : Bool) (s : Store) (ns : Table) (ps : List Place) (x : EntityUID) (o : Option StoredEntity) : Type 0 where
  pub keep : Keep
  pub is : o ≡ option_map (cut_entity keep) (entity_at s x)
  pub chains : (c : Chain) → needs false ns ps x (along c) ≡ true → keep.chains x c ≡ true
  pub tags : (n : List ℕ) (c : Chain) → needs false ns ps x (AnyTag ∷ along c) ≡ true → keep.tags x (n ∷ c) ≡ true
  pub only_chains : exact ≡ true → (c : Chain) → keep.chains x c ≡ true → needs false ns ps x (along c) ≡ true
  pub only_tags : exact ≡ true → (n : List ℕ) (c : Chain) → keep.tags x (n ∷ c) ≡ true → needs false ns ps x (AnyTag ∷ along c) ≡ true
  pub bare : exact ≡ true → (y : EntityUID) → keep.ancestors x y ≡ false

module _ (s : Store) (ns : Table) (ps : List Place) (x : EntityUID) (r : EntityRequest) (a : AsksFor ns ps x r) where
  -- just what is asked
  mask_asked : (exact : Bool) (o : Option StoredEntity) → o ≡ option_map (cut_entity (asked r.access_trie)) (entity_at s x) → Mask exact s ns ps x o
  mask_asked exact o e = record {
    keep = asked r.access_trie;
    is = e;
    chains = λ c h. a.each false (along c) ∙ h;
    tags = λ n c h. a.each false (AnyTag ∷ along c) ∙ h;
    only_chains = λ _ c h. sym (a.each false (along c)) ∙ h;
    only_tags = λ _ n c h. sym (a.each false (AnyTag ∷ along c)) ∙ h;
    bare = λ _ y. refl;
  }

  pub mask_of : (exact : Bool) (o : Option StoredEntity) → IsHonest exact s r o → Mask exact s ns ps x o
  mask_of exact None h = mask_asked exact None (sym (ap (option_map (cut_entity (asked r.access_trie))) (ap (entity_at s) (sym a.id) ∙ h)))
  mask_of true (Some e) g = mask_asked true (Some e) (ap Some (g.exactly refl) ∙ ap (option_map (cut_entity (asked r.access_trie))) (sym (ap (entity_at s) (sym a.id) ∙ g.at)))
  mask_of false (Some e) g =
      let at_x : entity_at s x ≡ Some g.stored = ap (entity_at s) (sym a.id) ∙ g.at in
      let is : g.stored.uid ≡ x = uid_at s x g.stored at_x in
      record {
        keep = g.keep;
        is = ap Some g.is ∙ ap (option_map (cut_entity g.keep)) (sym at_x);
        chains = λ c h. subst (λ z. g.keep.chains z c ≡ true) is (g.chains c (a.each false (along c) ∙ h));
        tags = λ n c h. subst (λ z. g.keep.tags z (n ∷ c) ≡ true) is (g.tags (n ∷ c) (a.each false (AnyTag ∷ along c) ∙ h));
        only_chains = λ e2. absurd (false≢true e2);
        only_tags = λ e2. absurd (false≢true e2);
        bare = λ e2. absurd (false≢true e2);
      }

-- ---- cuts that are the same

same_cut : (k l : Keep) (d : StoredEntity) → ((c : Chain) → k.chains d.uid c ≡ l.chains d.uid c) → ((y : EntityUID) → k.ancestors d.uid y ≡ l.ancestors d.uid y) → ((c : Chain) → k.tags d.uid c ≡ l.tags d.uid c) → cut_entity k d ≡ cut_entity l d
same_cut k l d f g h = λ i. record {
  uid = d.uid;
  attrs = cut_fields-same d.attrs (k.chains d.uid) (l.chains d.uid) f i;
  ancestors = filter (λ y. g y i) d.ancestors;
  tags = cut_fields-same d.tags (k.tags d.uid) (l.tags d.uid) h i;
}

-- ---- an answer that is merged with what is kept

module _ (x : EntityUID) (k p j : Keep) (w : IsWellFormed k) (wp : IsWellFormed p) (full : p.chains x [] ≡ true)
    (jc : (c : Chain) → j.chains x c ≡ (k.chains x c || p.chains x c)) (ja : (y : EntityUID) → j.ancestors x y ≡ (k.ancestors x y || p.ancestors x y)) (jt : (c : Chain) → j.tags x c ≡ (k.tags x c || p.tags x c)) where
  j_full : j.chains x [] ≡ true
  j_full = jc [] ∙ or_right_true (k.chains x []) (p.chains x []) full

  both_cut : (d : StoredEntity) → d.uid ≡ x → cut_entity (either_keep k p) d ≡ cut_entity j d
  both_cut d is = same_cut (either_keep k p) j d
      (λ c. subst (λ z. (k.chains z c || p.chains z c) ≡ j.chains z c) (sym is) (sym (jc c)))
      (λ y. subst (λ z. (k.ancestors z y || p.ancestors z y) ≡ j.ancestors z y) (sym is) (sym (ja y)))
      (λ c. subst (λ z. (k.tags z c || p.tags z c) ≡ j.tags z c) (sym is) (sym (jt c)))

  alone_cut : k.chains x [] ≡ false → (d : StoredEntity) → d.uid ≡ x → cut_entity p d ≡ cut_entity j d
  alone_cut gone d is = same_cut p j d
      (λ c. subst (λ z. p.chains z c ≡ j.chains z c) (sym is) (sym (jc c ∙ ap (λ b. b || p.chains x c) (false_of_not_true (k.chains x c) (λ h. false≢true (sym gone ∙ w.of_chains x c h))))))
      (λ y. subst (λ z. p.ancestors z y ≡ j.ancestors z y) (sym is) (sym (ja y ∙ ap (λ b. b || p.ancestors x y) (false_of_not_true (k.ancestors x y) (λ h. false≢true (sym gone ∙ w.of_ancestors x y h))))))
      (λ c. subst (λ z. p.tags z c ≡ j.tags z c) (sym is) (sym (jt c ∙ ap (λ b. b || p.tags x c) (false_of_not_true (k.tags x c) (λ h. false≢true (sym gone ∙ w.of_tags x c h))))))

  pub merged_at : (o : Option StoredEntity) → ((d : StoredEntity) → o ≡ Some d → (d.uid ≡ x) × IsEntityOrdered d) → kept_and (left k x o) (option_map (cut_entity p) o) ≡ left j x o
  merged_at None f = by (cases (k.chains x []))
    where
      by : (k.chains x [] ≡ true) ⊎ (k.chains x [] ≡ false) → left k x None ≡ left j x None
      by (inl i) = rw (i, j_full) refl
      by (inr i) = rw (i, j_full) refl
  merged_at (Some d) f = by (cases (k.chains x []))
    where
      by : (k.chains x [] ≡ true) ⊎ (k.chains x [] ≡ false) → kept_and (left k x (Some d)) (Some (cut_entity p d)) ≡ left j x (Some d)
      by (inl i) = rw (i, j_full) (merge_entities-cut d k p (f d refl).1 w wp ∙ ap Some (both_cut d (f d refl).0))
      by (inr i) = rw (i, j_full) (ap Some (alone_cut i d (f d refl).0))

-- ---- a round

-- what is chosen at an id besides
record Extra : Type 0 where
  chains : Chain → Bool
  tags : Chain → Bool
  ancestors : EntityUID → Bool

abbrev nothing : Extra
nothing = record { chains = λ c. false; tags = λ c. false; ancestors = λ y. false }

any_asked : (ns : Table) (ps : List Place) (x : EntityUID) (a : Address) → needs false ns ps x a ≡ true → list_any (λ p. uid_eq p.uid x) ps ≡ true
any_asked ns ps x a h = any_weaker (λ p. uid_eq p.uid x && sees false (node_of ns p) a) (λ p. uid_eq p.uid x) ps (λ p g. (and_parts (uid_eq p.uid x) (sees false (node_of ns p) a) g).0) h

-- a prefix of what is asked for is asked for
needs_prefix : (ns : Table) (ps : List Place) (x : EntityUID) (es a : Address) → needs false ns ps x (es ++ a) ≡ true → needs false ns ps x es ≡ true
needs_prefix ns ps x es a h =
    any_weaker (λ p. uid_eq p.uid x && sees false (node_of ns p) (es ++ a)) (λ p. uid_eq p.uid x && sees false (node_of ns p) es) ps
    (λ p g. let b = and_parts (uid_eq p.uid x) (sees false (node_of ns p) (es ++ a)) g in and_from (uid_eq p.uid x) (sees false (node_of ns p) es) b.0 (prefix_leads false ns p.number es a b.1)) h

along_append : (c rest : Chain) → along (c ++ rest) ≡ along c ++ along rest
along_append [] rest = refl
along_append (n ∷ c) rest = ap (λ es. Field n ∷ es) (along_append c rest)

-- a place that is there asks for the entity itself
asked_itself : (ns : Table) (ps : List Place) (x : EntityUID) → ((q : Place) → IsIn q ps → q.number < length ns) → list_any (λ p. uid_eq p.uid x) ps ≡ true → needs false ns ps x [] ≡ true
asked_itself ns ps x there h =
    let r = any_out (λ p. uid_eq p.uid x) ps h in
    any_in (λ p. uid_eq p.uid x && sees false (node_of ns p) []) r.0 ps r.1 (and_from (uid_eq r.0.uid x) (sees false (node_of ns r.0) []) r.2 (is_some_within ns r.0.number (there r.0 r.1)))

-- an entity of the store has the id by which it is found, and is in order
entity_known : (s : Store) → HasOrder s → (x : EntityUID) (d : StoredEntity) → entity_at s x ≡ Some d → (d.uid ≡ x) × IsEntityOrdered d
entity_known s order x d e = (uid_at s x d e, order.each x d e)

-- what two choices leave, where they are the same at the id
left_same : (x : EntityUID) (k l : Keep) → ((c : Chain) → k.chains x c ≡ l.chains x c) → ((y : EntityUID) → k.ancestors x y ≡ l.ancestors x y) → ((c : Chain) → k.tags x c ≡ l.tags x c)
    → (o : Option StoredEntity) → ((d : StoredEntity) → o ≡ Some d → d.uid ≡ x) → left k x o ≡ left l x o
left_same x k l f g h None u = by (k.chains x []) refl
  where
    by : (b : Bool) → k.chains x [] ≡ b → left k x None ≡ left l x None
    by true e = rw (e, sym (f []) ∙ e) refl
    by false e = rw (e, sym (f []) ∙ e) refl
left_same x k l f g h (Some d) u =
    (λ i. if f [] i then Some (same i) else None)
  where
    same : cut_entity k d ≡ cut_entity l d
    same = same_cut k l d (λ c. subst (λ z. k.chains z c ≡ l.chains z c) (sym (u d refl)) (f c)) (λ y. subst (λ z. k.ancestors z y ≡ l.ancestors z y) (sym (u d refl)) (g y)) (λ c. subst (λ z. k.tags z c ≡ l.tags z c) (sym (u d refl)) (h c))

module _ (exact : Bool) (s : Store) (ns : Table) (ps : List Place) (found : Found) (t : AreHonestAt exact s ns ps found) (there : (q : Place) → IsIn q ps → q.number < length ns) (order : HasOrder s) where
  mask : (x : EntityUID) → list_any (λ p. uid_eq p.uid x) ps ≡ true → Mask exact s ns ps x (found x)
  mask x e = let r = t.each x e in mask_of s ns ps x r.0 r.1 exact (found x) r.2

  abbrev extra_at : (x : EntityUID) (b : Bool) → list_any (λ p. uid_eq p.uid x) ps ≡ b → Extra
  extra_at x true e = record { chains = down ((mask x e).keep.chains x); tags = down ((mask x e).keep.tags x); ancestors = (mask x e).keep.ancestors x }
  extra_at x false e = nothing

  abbrev extra : EntityUID → Extra
  extra x = extra_at x (list_any (λ p. uid_eq p.uid x) ps) refl

  full_at : (x : EntityUID) (b : Bool) (e : list_any (λ p. uid_eq p.uid x) ps ≡ b) → b ≡ true → (extra_at x b e).chains [] ≡ true
  full_at x true e h = down_first ((mask x e).keep.chains x)
  full_at x false e h = absurd (false≢true h)

  -- whatever is chosen, the id was asked for
  chosen_chain : (x : EntityUID) (b : Bool) (e : list_any (λ p. uid_eq p.uid x) ps ≡ b) (c : Chain) → (extra_at x b e).chains c ≡ true → b ≡ true
  chosen_chain x true e c h = refl
  chosen_chain x false e c h = absurd (false≢true h)

  chosen_tag : (x : EntityUID) (b : Bool) (e : list_any (λ p. uid_eq p.uid x) ps ≡ b) (c : Chain) → (extra_at x b e).tags c ≡ true → b ≡ true
  chosen_tag x true e c h = refl
  chosen_tag x false e c h = absurd (false≢true h)

  chosen_ancestor : (x : EntityUID) (b : Bool) (e : list_any (λ p. uid_eq p.uid x) ps ≡ b) (y : EntityUID) → (extra_at x b e).ancestors y ≡ true → b ≡ true
  chosen_ancestor x true e c h = refl
  chosen_ancestor x false e c h = absurd (false≢true h)

  closed_chains : (x : EntityUID) (b : Bool) (e : list_any (λ p. uid_eq p.uid x) ps ≡ b) → IsClosed ((extra_at x b e).chains)
  closed_chains x true e = down_closed ((mask x e).keep.chains x)
  closed_chains x false e = record { first = λ m c rest h. h }

  closed_tags : (x : EntityUID) (b : Bool) (e : list_any (λ p. uid_eq p.uid x) ps ≡ b) → IsClosed ((extra_at x b e).tags)
  closed_tags x true e = down_closed ((mask x e).keep.tags x)
  closed_tags x false e = record { first = λ m c rest h. h }

  abbrev part_of : Extra → Keep
  part_of e = record { chains = λ _. e.chains; ancestors = λ _. e.ancestors; tags = λ _. e.tags }

  formed_at : (x : EntityUID) (b : Bool) (e : list_any (λ p. uid_eq p.uid x) ps ≡ b) → b ≡ true → IsWellFormed (part_of (extra_at x b e))
  formed_at x b e h = record {
    chains = λ _. closed_chains x b e;
    tags = λ _. closed_tags x b e;
    of_chains = λ _ c i. full_at x b e h;
    of_tags = λ _ c i. full_at x b e h;
    of_ancestors = λ _ y i. full_at x b e h;
  }

  found_at : (x : EntityUID) (b : Bool) (e : list_any (λ p. uid_eq p.uid x) ps ≡ b) → b ≡ true → found x ≡ option_map (cut_entity (part_of (extra_at x b e))) (entity_at s x)
  found_at x true e h = (mask x e).is ∙ by (entity_at s x) refl
    where
      k : Keep
      k = (mask x e).keep

      by : (o : Option StoredEntity) → entity_at s x ≡ o → option_map (cut_entity (mask x e).keep) o ≡ option_map (cut_entity (part_of (extra_at x true e))) o
      by None f = refl
      by (Some d) f =
          let is = uid_at s x d f in
          ap Some (λ i. record {
            uid = d.uid;
            attrs = (ap (λ z. cut_fields d.attrs ((mask x e).keep.chains z)) is ∙ sym (fields_down d.attrs ((mask x e).keep.chains x))) i;
            ancestors = filter ((mask x e).keep.ancestors (is i)) d.ancestors;
            tags = (ap (λ z. cut_fields d.tags ((mask x e).keep.tags z)) is ∙ sym (fields_down d.tags ((mask x e).keep.tags x))) i;
          })
  found_at x false e h = absurd (false≢true h)

  enough_chains : (x : EntityUID) (b : Bool) (e : list_any (λ p. uid_eq p.uid x) ps ≡ b) → b ≡ true → (c : Chain) → needs false ns ps x (along c) ≡ true → (extra_at x b e).chains c ≡ true
  enough_chains x true e h c w = down_from ((mask x e).keep.chains x) c (λ n d rest f. (mask x e).chains (n ∷ d)
      (needs_prefix ns ps x (along (n ∷ d)) (along rest) (subst (λ es. needs false ns ps x es ≡ true) (ap along f ∙ along_append (n ∷ d) rest) w)))
  enough_chains x false e h c w = absurd (false≢true h)

  enough_tags : (x : EntityUID) (b : Bool) (e : list_any (λ p. uid_eq p.uid x) ps ≡ b) → b ≡ true → (m : List ℕ) (c : Chain) → needs false ns ps x (AnyTag ∷ along c) ≡ true → (extra_at x b e).tags (m ∷ c) ≡ true
  enough_tags x true e h m c w = down_from ((mask x e).keep.tags x) (m ∷ c) (λ n d rest f. (mask x e).tags n d
      (needs_prefix ns ps x (AnyTag ∷ along d) (along rest) (subst (λ es. needs false ns ps x (AnyTag ∷ es) ≡ true) (ap along (tail_same m n c (d ++ rest) f) ∙ along_append d rest) w)))
    where
      tail_same : (p q : List ℕ) (ds es : Chain) → p ∷ ds ≡ q ∷ es → ds ≡ es
      tail_same p q ds es g = cc
  enough_tags x false e h m c w = absurd (false≢true h)

  only_chains_at : exact ≡ true → (x : EntityUID) (b : Bool) (e : list_any (λ p. uid_eq p.uid x) ps ≡ b) (c : Chain) → (extra_at x b e).chains c ≡ true → needs false ns ps x (along c) ≡ true
  only_chains_at f x true e [] h = asked_itself ns ps x there e
  only_chains_at f x true e (n ∷ c) h = (mask x e).only_chains f (n ∷ c) (down_less ((mask x e).keep.chains x) n c h)
  only_chains_at f x false e c h = absurd (false≢true h)

  only_tags_at : exact ≡ true → (x : EntityUID) (b : Bool) (e : list_any (λ p. uid_eq p.uid x) ps ≡ b) (n : List ℕ) (c : Chain) → (extra_at x b e).tags (n ∷ c) ≡ true → needs false ns ps x (AnyTag ∷ along c) ≡ true
  only_tags_at f x true e n c h = (mask x e).only_tags f n c (down_less ((mask x e).keep.tags x) n c h)
  only_tags_at f x false e n c h = absurd (false≢true h)

  bare_at : exact ≡ true → (x : EntityUID) (b : Bool) (e : list_any (λ p. uid_eq p.uid x) ps ≡ b) (y : EntityUID) → (extra_at x b e).ancestors y ≡ false
  bare_at f x true e y = (mask x e).bare f y
  bare_at f x false e y = refl

  idle_chains : (x : EntityUID) (b : Bool) (e : list_any (λ p. uid_eq p.uid x) ps ≡ b) → b ≡ false → (c : Chain) → (extra_at x b e).chains c ≡ false
  idle_chains x true e h c = absurd (false≢true (sym h))
  idle_chains x false e h c = refl

  idle_tags : (x : EntityUID) (b : Bool) (e : list_any (λ p. uid_eq p.uid x) ps ≡ b) → b ≡ false → (c : Chain) → (extra_at x b e).tags c ≡ false
  idle_tags x true e h c = absurd (false≢true (sym h))
  idle_tags x false e h c = refl

  idle_ancestors : (x : EntityUID) (b : Bool) (e : list_any (λ p. uid_eq p.uid x) ps ≡ b) → b ≡ false → (y : EntityUID) → (extra_at x b e).ancestors y ≡ false
  idle_ancestors x true e h y = absurd (false≢true (sym h))
  idle_ancestors x false e h y = refl

  module _ (before : List Place) (old : Found) (k : IsKeptPart exact s ns before old) where
    abbrev joined : Keep
    joined = record { chains = λ x c. k.choice.chains x c || (extra x).chains c; ancestors = λ x y. k.choice.ancestors x y || (extra x).ancestors y; tags = λ x c. k.choice.tags x c || (extra x).tags c }

    abbrev is_asked : EntityUID → Bool
    is_asked x = list_any (λ p. uid_eq p.uid x) ps

    joined_full : (x : EntityUID) → is_asked x ≡ true → joined.chains x [] ≡ true
    joined_full x h = or_right_true (k.choice.chains x []) ((extra x).chains []) (full_at x (is_asked x) refl h)

    either_closed : (f g : Chain → Bool) → IsClosed f → IsClosed g → IsClosed (λ c. f c || g c)
    either_closed f g a b = record {
      first = λ m c rest h. elim (or_cases (f (m ∷ (c ++ rest))) (g (m ∷ (c ++ rest))) h) [
        | inl i ↦ or_left_true (f (m ∷ c)) (g (m ∷ c)) (a.first m c rest i)
        | inr i ↦ or_right_true (f (m ∷ c)) (g (m ∷ c)) (b.first m c rest i)
      ];
    }

    joined_formed : IsWellFormed joined
    joined_formed = record {
      chains = λ x. either_closed (k.choice.chains x) (extra x).chains (k.formed.chains x) (closed_chains x (is_asked x) refl);
      tags = λ x. either_closed (k.choice.tags x) (extra x).tags (k.formed.tags x) (closed_tags x (is_asked x) refl);
      of_chains = λ x c h. elim (or_cases (k.choice.chains x c) ((extra x).chains c) h) [
        | inl i ↦ or_left_true (k.choice.chains x []) ((extra x).chains []) (k.formed.of_chains x c i)
        | inr i ↦ joined_full x (chosen_chain x (is_asked x) refl c i)
      ];
      of_tags = λ x c h. elim (or_cases (k.choice.tags x c) ((extra x).tags c) h) [
        | inl i ↦ or_left_true (k.choice.chains x []) ((extra x).chains []) (k.formed.of_tags x c i)
        | inr i ↦ joined_full x (chosen_tag x (is_asked x) refl c i)
      ];
      of_ancestors = λ x y h. elim (or_cases (k.choice.ancestors x y) ((extra x).ancestors y) h) [
        | inl i ↦ or_left_true (k.choice.chains x []) ((extra x).chains []) (k.formed.of_ancestors x y i)
        | inr i ↦ joined_full x (chosen_ancestor x (is_asked x) refl y i)
      ];
    }

    joined_is : (x : EntityUID) → kept_and (old x) (found x) ≡ left joined x (entity_at s x)
    joined_is x = by (cases (is_asked x))
      where
        by : (is_asked x ≡ true) ⊎ (is_asked x ≡ false) → kept_and (old x) (found x) ≡ left joined x (entity_at s x)
        by (inl i) =
            (λ j. kept_and (k.is x j) (found_at x (is_asked x) refl i j))
            ∙ merged_at x k.choice (part_of (extra x)) joined k.formed (formed_at x (is_asked x) refl i) (full_at x (is_asked x) refl i) (λ c. refl) (λ y. refl) (λ c. refl) (entity_at s x) (entity_known s order x)
        by (inr i) =
            ap (kept_and (old x)) (t.others x i) ∙ k.is x
            ∙ left_same x k.choice joined
            (λ c. sym (ap (λ b. k.choice.chains x c || b) (idle_chains x (is_asked x) refl i c) ∙ or_false (k.choice.chains x c)))
            (λ y. sym (ap (λ b. k.choice.ancestors x y || b) (idle_ancestors x (is_asked x) refl i y) ∙ or_false (k.choice.ancestors x y)))
            (λ c. sym (ap (λ b. k.choice.tags x c || b) (idle_tags x (is_asked x) refl i c) ∙ or_false (k.choice.tags x c)))
            (entity_at s x) (λ d e. uid_at s x d e)

    -- honest answers merge with what is kept
    pub merges : (u : EntityUID) (a g : StoredEntity) → old u ≡ Some a → found u ≡ Some g → merge_entities a g ≡ None → ⊥
    merges u a g oa fg none = on (cases (is_asked u))
      where
        by : is_asked u ≡ true → (o : Option StoredEntity) → entity_at s u ≡ o → ⊥
        by i None e = let gone = found_at u (is_asked u) refl i ∙ ap (option_map (cut_entity (part_of (extra u)))) e in absurd (cc (gone, fg))
        by i (Some d) e =
            let whole : None ≡ left joined u (entity_at s u) = sym none ∙ (λ j. kept_and (sym oa j) (sym fg j)) ∙ joined_is u in
            let there : None ≡ Some (cut_entity joined d) = whole ∙ ap (left joined u) e ∙ ap (λ b. if b then Some (cut_entity joined d) else None) (joined_full u i) in
            absurd (cc there)

        on : (is_asked u ≡ true) ⊎ (is_asked u ≡ false) → ⊥
        on (inl i) = by i (entity_at s u) refl
        on (inr i) = let gone = t.others u i in absurd (cc (gone, fg))

    pub kept_more : (new : Found) (after : List Place) → ((x : EntityUID) → new x ≡ kept_and (old x) (found x)) → ((b : Bool) (x : EntityUID) (a : Address) → needs b ns after x a ≡ (needs b ns before x a || needs b ns ps x a)) → IsKeptPart exact s ns after new
    kept_more new after kept noted = record {
      choice = joined;
      formed = joined_formed;
      is = λ x. kept x ∙ joined_is x;
      chains = λ x c h. elim (or_cases (needs false ns before x (along c)) (needs false ns ps x (along c)) (sym (noted false x (along c)) ∙ h)) [
        | inl i ↦ or_left_true (k.choice.chains x c) ((extra x).chains c) (k.chains x c i)
        | inr i ↦ or_right_true (k.choice.chains x c) ((extra x).chains c) (enough_chains x (is_asked x) refl (any_asked ns ps x (along c) i) c i)
      ];
      tags = λ x n c h. elim (or_cases (needs false ns before x (AnyTag ∷ along c)) (needs false ns ps x (AnyTag ∷ along c)) (sym (noted false x (AnyTag ∷ along c)) ∙ h)) [
        | inl i ↦ or_left_true (k.choice.tags x (n ∷ c)) ((extra x).tags (n ∷ c)) (k.tags x n c i)
        | inr i ↦ or_right_true (k.choice.tags x (n ∷ c)) ((extra x).tags (n ∷ c)) (enough_tags x (is_asked x) refl (any_asked ns ps x (AnyTag ∷ along c) i) n c i)
      ];
      only_chains = λ f x c h. noted false x (along c) ∙ elim (or_cases (k.choice.chains x c) ((extra x).chains c) h) [
        | inl i ↦ or_left_true (needs false ns before x (along c)) (needs false ns ps x (along c)) (k.only_chains f x c i)
        | inr i ↦ or_right_true (needs false ns before x (along c)) (needs false ns ps x (along c)) (only_chains_at f x (is_asked x) refl c i)
      ];
      only_tags = λ f x n c h. noted false x (AnyTag ∷ along c) ∙ elim (or_cases (k.choice.tags x (n ∷ c)) ((extra x).tags (n ∷ c)) h) [
        | inl i ↦ or_left_true (needs false ns before x (AnyTag ∷ along c)) (needs false ns ps x (AnyTag ∷ along c)) (k.only_tags f x n c i)
        | inr i ↦ or_right_true (needs false ns before x (AnyTag ∷ along c)) (needs false ns ps x (AnyTag ∷ along c)) (only_tags_at f x (is_asked x) refl n c i)
      ];
      bare = λ f x y. (λ i. k.bare f x y i || bare_at f x (is_asked x) refl y i);
    }

-- nothing is kept before the first round
pub kept_start : (exact : Bool) (s : Store) (ns : Table) (old : Found) → ((x : EntityUID) → old x ≡ None) → IsKeptPart exact s ns [] old
kept_start exact s ns old none = record {
  choice = record { chains = λ x c. false; ancestors = λ x y. false; tags = λ x c. false };
  formed = record {
    chains = λ x. record { first = λ m c rest h. h };
    tags = λ x. record { first = λ m c rest h. h };
    of_chains = λ x c h. h;
    of_tags = λ x c h. h;
    of_ancestors = λ x y h. h;
  };
  is = none;
  chains = λ x c h. h;
  tags = λ x n c h. h;
  only_chains = λ f x c h. h;
  only_tags = λ f x n c h. h;
  bare = λ f x y. refl;
}
