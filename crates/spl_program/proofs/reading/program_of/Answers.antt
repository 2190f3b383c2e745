-- What the parts answer is what the texts come to.
use Rattle.std.proofs.Common.{ap, map, subst, List, Vec, Global}
use Rattle.spl_tree.specs.declared.units.SplUnit.{SplUnit}
use Rattle.spl_tree.specs.declared.tokens.Lexed.{Lexed}
use Rattle.spl_sound.specs.Spelled.{source_of}
use Rattle.spl_program.specs.Texts.{AreUnits}
use Rattle.spl_program.specs.Steps.{UnspelledAmong}
use Rattle.spl_lexer.specs.TokenViews.{listed_of}
use Rattle.spl_program.specs.Programs.{texts_of, Tells}
use Rattle.spl_program.proofs.LoopLemmas.{handed}
use Rattle.spl_program.proofs.ListLemmas.{all_spelled}
use Rattle.spl_program.proofs.AnswerLemmas.{tells_tokens, tells_spelling, tells_rules, tells_limits, few_units}
use Rattle.spl_program.proofs.reading.program_of.Goals as goal

pub returns-in_err-all-clause-fault : goal.returns-in_err-all-clause-fault
returns-in_err-all-clause-fault c =
    handed (Tells (texts_of c.args.texts.now)) c.from_residual.result c.in_err-all.field-0.0 c.from_residual.ensures.1
    (tells_tokens (texts_of c.args.texts.now) c.in_err-all.field-0.0 c.in_err-all.ensures.fault)

pub returns-in_err-units-clause-fault : goal.returns-in_err-units-clause-fault
returns-in_err-units-clause-fault c =
    let lists = map listed_of c.in_ok-all.all.items in
    handed (Tells (texts_of c.args.texts.now)) c.from_residual-in_err-units.result c.in_err-units.field-0.0 c.from_residual-in_err-units.ensures.1
    (tells_spelling (texts_of c.args.texts.now) lists c.in_err-units.field-0.0 c.in_ok-all.ensures.cut
    (subst (λ (xs : List Lexed). UnspelledAmong (map listed_of xs) c.in_err-units.field-0.0) c.deref.ensures.value c.in_err-units.ensures.fault))

pub checked-requires-clause-few : goal.checked-requires-clause-few
checked-requires-clause-few c =
    few_units c.args.texts.now (map listed_of c.in_ok-all.all.items) c.in_ok-units.units.items c.requires.few c.in_ok-all.ensures.cut
    (subst (λ (xs : List Lexed). AreUnits (map listed_of xs) (map source_of c.in_ok-units.units.items)) c.deref.ensures.value c.in_ok-units.ensures.units)

pub checked-requires-clause-spelled : goal.checked-requires-clause-spelled
checked-requires-clause-spelled c =
    all_spelled c.in_ok-all.ensures.cut
    (subst (λ (xs : List Lexed). AreUnits (map listed_of xs) (map source_of c.in_ok-units.units.items)) c.deref.ensures.value c.in_ok-units.ensures.units)

pub returns-in_err-sound-clause-fault : goal.returns-in_err-sound-clause-fault
returns-in_err-sound-clause-fault c =
    handed (Tells (texts_of c.args.texts.now)) c.from_residual-in_err-sound.result c.in_err-sound.field-0.0 c.from_residual-in_err-sound.ensures.1
    (tells_rules (texts_of c.args.texts.now) (map listed_of c.in_ok-all.all.items) c.in_ok-units.units.items c.in_err-sound.field-0.0 c.in_ok-all.ensures.cut
    (subst (λ (xs : List Lexed). AreUnits (map listed_of xs) (map source_of c.in_ok-units.units.items)) c.deref.ensures.value c.in_ok-units.ensures.units)
    c.in_err-sound.ensures.rule)

pub returns-in-Err-Full-clause-fault : goal.returns-in-Err-Full-clause-fault
returns-in-Err-Full-clause-fault c =
    tells_limits (texts_of c.args.texts.now) (map listed_of c.in_ok-all.all.items) c.in_ok-units.units.items c.in_ok-sound.sound c.in-Err-Full.field-0 c.in-Err-Full.limit
    c.in-Err-Full.field-0-2 c.in-Err-Full.at c.in_ok-all.ensures.cut
    (subst (λ (xs : List Lexed). AreUnits (map listed_of xs) (map source_of c.in_ok-units.units.items)) c.deref.ensures.value c.in_ok-units.ensures.units)
    (ap (λ (us : Vec SplUnit Global). us.items) c.in_ok-sound.ensures.sound) c.in-Err-Full.field-0-is c.in-Err-Full.ensures.full
