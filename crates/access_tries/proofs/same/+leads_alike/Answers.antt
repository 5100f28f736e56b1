use Rattle.std.proofs.Common.{◌≡◌, ◌<◌, ◌+◌, false, ◌&&◌, length, drop, sym, ap, ◌∙◌, arith}
use Rattle.access_tries.specs.Table.{links_at}
use Rattle.access_tries.specs.Trees.{branch_at}
use Rattle.access_tries.proofs.Alike.{alike, looks, step, other_differs, other_length}
use Rattle.plain_lemmas.proofs.Booleans.{and_false_left}
use Rattle.access_tries.proofs.same.+leads_alike.Goals as goal
use Rattle.access_tries.proofs.same.+leads_alike.Goals.{then-not-looks_alike-via-then-not-looks_alike, then-not-looks_alike-via-else-not-looks_alike+then-not-leads_alike}

pub returns-then-xs-ys : goal.returns-then-xs-ys
returns-then-xs-ys t c =
    sym (other_length (branch_at c.args.a.now) (branch_at c.args.b.now) (links_at c.args.a.now c.args.i) (links_at c.args.b.now c.args.j) (λ e. c.if-xs-ys.true (ap length c.links_of-xs.ensures ∙ e ∙ sym (ap length c.links_of-ys.ensures))))

pub returns-then-not-looks_alike : goal.returns-then-not-looks_alike
returns-then-not-looks_alike t c =
    let a = c.args.a.now in
    let b = c.args.b.now in
    let x = c.index-xs-k.result in
    let y = c.index-ys-k.result in
    let xs = c.links_of-xs.result.now in
    let ys = c.links_of-ys.result.now in
    let k = c.loop-k.k in
    let in_xs : c.loop-k.k < length c.links_of-xs.result.now = omega arith in
    let in_ys : c.loop-k.k < length c.links_of-ys.result.now = omega arith in
    let below = alike a b (links_at a x.number) (links_at b y.number) in
    let here : (looks c.args.a.now c.args.b.now c.index-xs-k.result c.index-ys-k.result && alike c.args.a.now c.args.b.now (links_at c.args.a.now c.index-xs-k.result.number) (links_at c.args.b.now c.index-ys-k.result.number)) ≡ false =
    elim c.then-not-looks_alike.branch [
      | then-not-looks_alike-via-then-not-looks_alike w ↦ and_false_left (looks a b x y) below (sym c.looks_alike.ensures ∙ w.if-not-looks_alike.true)
      | then-not-looks_alike-via-else-not-looks_alike+then-not-leads_alike w ↦ other_differs (looks a b x y) below (sym w.leads_alike.ensures ∙ w.if-not-leads_alike.true)
    ] in
    sym (ap (λ l. alike a b l (links_at b c.args.j)) (sym c.links_of-xs.ensures) ∙ ap (alike a b xs) (sym c.links_of-ys.ensures) ∙ sym c.loop-k.invariant
    ∙ step a b c.requires.a_table.closed c.requires.b_table.closed xs ys k x y in_xs in_ys c.index-xs-k.is c.index-ys-k.is
    ∙ and_false_left (looks a b x y && below) (alike a b (drop (k + 1) xs) (drop (k + 1) ys)) here)

pub loop-k-preserved : goal.loop-k-preserved
loop-k-preserved t c =
    let a = c.args.a.now in
    let b = c.args.b.now in
    let x = c.index-xs-k.result in
    let y = c.index-ys-k.result in
    let xs = c.links_of-xs.result.now in
    let ys = c.links_of-ys.result.now in
    let k = c.loop-k.k in
    let in_xs : c.loop-k.k < length c.links_of-xs.result.now = omega arith in
    let in_ys : c.loop-k.k < length c.links_of-ys.result.now = omega arith in
    let left = alike a b (drop (k + 1) xs) (drop (k + 1) ys) in
    let below = alike a b (links_at a x.number) (links_at b y.number) in
    sym (step a b c.requires.a_table.closed c.requires.b_table.closed xs ys k x y in_xs in_ys c.index-xs-k.is c.index-ys-k.is
    ∙ ap (λ m. (m && below) && left) (sym c.looks_alike.ensures ∙ c.if-not-looks_alike.false)
    ∙ ap (λ m. m && left) (sym c.leads_alike.ensures ∙ c.if-not-leads_alike.false))
    ∙ c.loop-k.invariant
