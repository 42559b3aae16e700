use Rattle.std.proofs.Common.{◌∷◌, sym, ◌∙◌, subst}
use Rattle.scopes.specs.Scoping.{Scoped}
use Rattle.scopes.specs.Tables.{rows_of}
use Rattle.scopes.proofs.Relating.{scoped, only_scoped}
use Rattle.scopes.proofs.Reserving.{tag_look}
use Rattle.scopes.proofs.tables.scope_table.ScopeTable.find_uri.Goals as goal

pub returns : goal.returns
returns c =
    let tag = c.args.tag.now in
    let rows = rows_of c.args.self.now in
    let p = c.args.prefix in
    let value = c.find_binding.ensures ∙ tag_look tag rows p in
    record {
      value = value;
      scoped = subst (Scoped (tag ∷ rows) p) (sym value) (scoped (tag ∷ rows) p);
      only = λ other s. only_scoped (tag ∷ rows) p other s ∙ sym value;
    }
