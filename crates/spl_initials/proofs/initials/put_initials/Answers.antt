-- One declaration more.
use Rattle.std.proofs.Common.{ℕ, ◌+◌, ap, sym, ◌∙◌, map, drop, Option}
use Rattle.spl_tree.specs.DeclarationTrees.{declarations}
use Rattle.spl_tree.specs.Spells.{declaration}
use Rattle.spl_sorts.specs.spl_meaning.Names.{Names, find}
use Rattle.spl_sorts.specs.spl_meaning.Places as places
use Rattle.spl_sorts.specs.spl_meaning.Runs.{global_address}
use Rattle.spl_places.specs.spl_found.OwnNames.{behind_declaration, behind_declarations}
use Rattle.spl_sorts.specs.Tables.{table_of}
use Rattle.spl_places.proofs.DataWalks.{declarations_step}
use Rattle.spl_initials.specs.Memory.{memory_of}
use Rattle.spl_initials.specs.Cells.{found_in, initials_by}
use Rattle.spl_initials.proofs.InitialWalks.{declaration_step}
use Rattle.spl_initials.proofs.initials.put_initials.Goals as goal

pub loop-d-preserved : goal.loop-d-preserved
loop-d-preserved c =
    let outer = find (table_of c.args.outer.now) in
    let here = find (table_of c.loop-d.here) in
    let own = c.args.own in
    let f = found_in c.args.list.now in
    let list = c.args.declarations.now in
    let i = c.loop-d.d-index in
    let x = c.d-item.result in
    let mem = memory_of c.loop-d.words in
    let rest = declarations (map declaration (drop (i + 1) list)) in
    let behind = behind_declaration outer here (declaration x) in
    let names = c.in_ok-put_declaration.ensures.names in
    record {
      words = ap (λ (t : Names). places.put_initials global_address (initials_by own outer f t rest) (memory_of c.put_declaration.new.words)) names
          ∙ ap (λ (m : ℕ → Option ℕ). places.put_initials global_address (initials_by own outer f behind rest) m) c.in_ok-put_declaration.ensures.words
          ∙ sym (declaration_step own outer here f list i x mem c.loop-d-test.true c.d-item.is) ∙ c.loop-d.invariant.words;
      names = ap (λ (t : Names). behind_declarations outer t rest) names
          ∙ sym (declarations_step outer here list i x c.loop-d-test.true c.d-item.is) ∙ c.loop-d.invariant.names;
    }
