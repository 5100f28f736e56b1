use Rattle.std.proofs.Common.{false, sym, ◌∙◌, subst}
use Rattle.std.specs.Prelude.{IfOk}
use Rattle.std.specs.List.{AllZip}
use Rattle.entity_store.specs.Store.{Store}
use Rattle.entity_loader.specs.Answers.{IsHonest}
use Rattle.table_loader.specs.TableLaws.{IsOrderedStore}
use Rattle.table_loader.proofs.Ordered.{known}
use Rattle.table_loader.proofs.loader.RowLoaderEntityLoader.load_entities.Goals as goal

pub returns-clause-honest : goal.returns-clause-honest
returns-clause-honest g c = λ s h.
    let tells = known (g.R.Rows.state c.args.self.now.rows) s h in
    subst (λ (w : Store). IfOk c.answers.result (λ found. AllZip (IsHonest false w) c.args.requests.now.items found.items)) tells.is
    (c.answers.ensures.honest tells.tables (c.answers.ensures.goes_on.stays tells.steady ∙ tells.known)
    (subst IsOrderedStore (sym tells.is) tells.ordered.order))
