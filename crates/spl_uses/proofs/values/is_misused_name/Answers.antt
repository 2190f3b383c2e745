-- The number of arguments is their length.
use Rattle.std.proofs.Common.{rules, ◌≡◌, length, ◌∙◌}
use Rattle.spl_sorts.specs.Tables.{names_of}
use Rattle.spl_uses.proofs.Named.{misused_named}
use Rattle.spl_uses.proofs.values.is_misused_name.Goals as goal

pub returns-in-Named : goal.returns-in-Named
returns-in-Named c =
    let few : c.len.result ≡ length c.in-Named.args.items = search rules in
    c.is_misused.ensures
    ∙ misused_named (names_of c.args.names.now) c.in-Named.name c.in-Named.args c.in-Named.at c.args.e.now c.len.result c.in-Named.is few
