use Rattle.std.proofs.Common.{◌∙◌, ap}
use Rattle.std.specs.List.{list_any}
use Rattle.std.specs.Str.{bytes_eq}
use Rattle.rc_keys.proofs.Naming.{put_key, pushed}
use Rattle.rc_keys.proofs.table.Table.put.Goals as goal

pub invariant_of-self-in-Ok-insert : goal.invariant_of-self-in-Ok-insert
invariant_of-self-in-Ok-insert g c = (
  put_key g.T.Named.called c.self.inside.names.keys c.insert.new.self.keys c.self.inside.items c.push.new.self c.args.item c.in-Ok.key c.self.invariant.0
      (c.in-Ok.ensures.items ∙ c.name.ensures)
      (ap (λ items. list_any (λ other. bytes_eq (g.T.Named.called c.args.item) (g.T.Named.called other)) items) c.self.view_is ∙ c.requires)
      c.in-Ok-push.ensures.ok c.in-Ok-insert.ensures.keys,
  pushed g.T.Named.called c.self.inside.items c.push.new.self c.args.item c.self.invariant.1 c.in-Ok-push.ensures.ok
      (ap (λ items. list_any (λ other. bytes_eq (g.T.Named.called c.args.item) (g.T.Named.called other)) items) c.self.view_is ∙ c.requires),
)
