-- A look-up in the map is one among the names.
use Rattle.std.proofs.Common.{ap, sym, ◌∙◌, option_map}
use Rattle.std.specs.Prelude.{Option}
use Rattle.std.specs.Option.{option_copied}
use Rattle.std.specs.Borrow.{Bor}
use Rattle.spl_sorts.specs.declared.profiles.Profile.{Profile}
use Rattle.spl_types.specs.WaitingNames.{kept, joined}
use Rattle.spl_types.proofs.Inserts.{lookup_is}
use Rattle.spl_types.proofs.waiting.Waiting.find.Goals as goal

pub returns-in-Some-Some : goal.returns-in-Some-Some
returns-in-Some-Some c = sym (
    ap joined (sym (lookup_is c.args.self.now.by_name.entries c.args.name.now.text))
    ∙ ap (λ (o : Option (Option Profile)). joined (option_map kept o)) (sym c.get.ensures.value)
    ∙ ap (λ (r : Option (Bor (Option Profile))). joined (option_map kept (option_copied r))) c.in-Some-Some.is
    ∙ ap kept c.in-Some-Some.field-0-is)

pub returns-in-Some-None : goal.returns-in-Some-None
returns-in-Some-None c = sym (
    ap joined (sym (lookup_is c.args.self.now.by_name.entries c.args.name.now.text))
    ∙ ap (λ (o : Option (Option Profile)). joined (option_map kept o)) (sym c.get.ensures.value)
    ∙ ap (λ (r : Option (Bor (Option Profile))). joined (option_map kept (option_copied r))) c.in-Some-None.is
    ∙ ap kept c.in-Some-None.field-0-is)

pub returns-in-None : goal.returns-in-None
returns-in-None c = sym (
    ap joined (sym (lookup_is c.args.self.now.by_name.entries c.args.name.now.text))
    ∙ ap (λ (o : Option (Option Profile)). joined (option_map kept o)) (sym c.get.ensures.value)
    ∙ ap (λ (r : Option (Bor (Option Profile))). joined (option_map kept (option_copied r))) c.in-None.is)
