use Rattle.std.proofs.Common.{◌≡◌, true, false, ◌&&◌, sym, ap, ◌∙◌}
use Rattle.std.specs.Prelude.{slice_get}
use Rattle.std.specs.Bool.{beq}
use Rattle.access_tries.specs.Table.{has_mark, links_at}
use Rattle.access_tries.proofs.Alike.{alike, node_alike}
use Rattle.access_tries.proofs.same.same_nodes.Goals as goal

pub returns-then-same_marks : goal.returns-then-same_marks
returns-then-same_marks c =
    let a = c.args.a.now in
    let b = c.args.b.now in
    let marks : beq (has_mark (slice_get c.args.a.now c.args.i)) (has_mark (slice_get c.args.b.now c.args.j)) ≡ true = cc in
    c.leads_alike.ensures ∙ sym (node_alike a b c.requires.a_table.closed c.requires.b_table.closed c.args.i c.args.j ∙ ap (λ m. m && alike a b (links_at a c.args.i) (links_at b c.args.j)) marks)

pub returns-else-same_marks : goal.returns-else-same_marks
returns-else-same_marks c =
    let a = c.args.a.now in
    let b = c.args.b.now in
    let marks : beq (has_mark (slice_get c.args.a.now c.args.i)) (has_mark (slice_get c.args.b.now c.args.j)) ≡ false = cc in
    c.if-same_marks.false ∙ sym (node_alike a b c.requires.a_table.closed c.requires.b_table.closed c.args.i c.args.j ∙ ap (λ m. m && alike a b (links_at a c.args.i) (links_at b c.args.j)) marks)
