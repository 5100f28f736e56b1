-- Templates that are given are placed as they are.
use Rattle.std.proofs.Common.{◌≡◌, ℕ, List, [], ◌∷◌, map, Bor, refl, ap, ◌∙◌}
use Rattle.std.specs.Prelude.{true, cond, fold, filter}
use Rattle.std.specs.declared.cmp.Ordering.{Ordering}
use Rattle.std.specs.declared.cmp.Ordering.TheVariants.{Less, Equal, Greater}
use Rattle.std.specs.Ordering.{match_ordering}
use Rattle.std.specs.BTreeMap.{BTreeMap, values, insert_entry}
use Rattle.std.specs.Map.Iter.{deref}
use Rattle.policy_values.specs.Keyed.{AreAtTheirKeys, with_value}
use Rattle.policy_values.specs.Uid.{text_cmp}
use Rattle.policy_set.specs.Data.{TemplateData, PolicyData}
use Rattle.policy_set.specs.Condition.{written_of}
use Rattle.policy_set.specs.PolicySet.{placed, is_static}
use Rattle.policy_set.proofs.Sets.{put_values}

abbrev pub borrowed_id : Bor TemplateData → List ℕ
borrowed_id t = t.now.id

shown : (v : Bor TemplateData) (vs : List (Bor TemplateData)) → map deref (with_value text_cmp borrowed_id v vs) ≡ placed (map deref vs) v.now
shown v [] = refl
shown v (w ∷ ws) = by (text_cmp v.now.id w.now.id) (shown v ws) where
  by : (o : Ordering) → map deref (with_value text_cmp borrowed_id v ws) ≡ placed (map deref ws) v.now →
      map deref (match_ordering o (v ∷ w ∷ ws) (v ∷ ws) (w ∷ with_value text_cmp borrowed_id v ws)) ≡ match_ordering o (v.now ∷ w.now ∷ map deref ws) (v.now ∷ map deref ws) (w.now ∷ placed (map deref ws) v.now)
  by Less later = refl
  by Equal later = refl
  by Greater later = ap (λ ts. w.now ∷ ts) later

pub put_shown : (m n : BTreeMap (List ℕ) (Bor TemplateData)) → AreAtTheirKeys text_cmp borrowed_id m → (v : Bor TemplateData) → n.entries ≡ insert_entry text_cmp m.entries v.now.id v →
    map deref (values n) ≡ placed (map deref (values m)) v.now
put_shown m n keys v put = ap (map deref) (put_values borrowed_id m n keys v put) ∙ shown v (values m)

-- a static policy is placed as it is written
pub static_next : (ts : List TemplateData) (p : PolicyData) (ps : List PolicyData) → is_static p ≡ true →
    fold placed ts (map written_of (filter is_static (p ∷ ps))) ≡ fold placed (placed ts (written_of p)) (map written_of (filter is_static ps))
static_next ts p ps s = ap (λ b. fold placed ts (map written_of (cond b (p ∷ filter is_static ps) (filter is_static ps)))) s
