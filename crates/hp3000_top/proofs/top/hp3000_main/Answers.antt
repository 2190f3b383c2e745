-- The clauses of the top call, of an answer that was taken.
use Rattle.std.proofs.Common.{◌≡◌, ◌∙◌, ℕ, true, List, Option, Some, map, string_bytes, sym, ap, subst}
use Rattle.std.specs.Global.{Global}
use Rattle.std.proofs.Common as std
use Rattle.hp3000_top.specs.declared.verbs.Verb.{Verb}
use Rattle.std.specs.List.{list_all}
use Rattle.hp3000_top.specs.Carried.{is_byte}
use Rattle.hp3000_top.specs.Verbs.{asked}
use Rattle.hp3000_top.specs.Answers.{IsWhole, BreaksOff, Refuses, Delivers, AreAsAlone, IsSurelyDone, IsSurelyRefused, MadeAt}
use Rattle.hp3000_top.specs.Decided.{IsLeftToWords, IsDecided}
use Rattle.hp3000_top.specs.Steps.{IsAnswered}
use Rattle.hp3000_top.proofs.CarriedSessions.{texts_carry}
use Rattle.hp3000_top.proofs.TopLemmas.{whole_so, broken_so, refused_so, done_so, headline_so, complete_so, decided_so, faulty_so, made_so}
use Rattle.hp3000_top.proofs.top.hp3000_main.Goals as goal

-- the words ask for the verb
asked_so : (words now : List (std.String Global)) (v : Verb) → Some v ≡ asked (map (λ w. string_bytes w) words) → words ≡ now
    → Some v ≡ asked (map (λ w. string_bytes w) now)
asked_so words now v e is = e ∙ ap (λ (ws : List (std.String Global)). asked (map (λ w. string_bytes w) ws)) is

pub returns-clause-whole : goal.returns-clause-whole
returns-clause-whole g c =
    let verb_is = asked_so c.deref.result.now c.args.words.now.items c.in-Some.verb c.in-Some.ensures c.deref.ensures.value in
    λ w. subst (λ (v : Option Verb). IsWhole 1048576 v (g.I.Source.left c.args.input.now) (g.I.Source.left c.bytes_for.new.input)) verb_is
    (whole_so c.in-Some.verb _ _ c.in-Ok.bytes.items c.in-Ok.ensures.ok)

pub returns-clause-broken : goal.returns-clause-broken
returns-clause-broken g c =
    let told : IsAnswered c.in-Ok.bytes.items c.in-Some.verb c.in-Ok-answer_of.answer =
    subst (λ (bs : List ℕ). IsAnswered bs c.in-Some.verb c.in-Ok-answer_of.answer) c.deref-2.ensures.value c.in-Ok-answer_of.ensures in
    let verb_is = asked_so c.deref.result.now c.args.words.now.items c.in-Some.verb c.in-Some.ensures c.deref.ensures.value in
    λ w. subst (λ (v : Option Verb). BreaksOff v (g.I.Source.left c.args.input.now) (g.O.Sink.written c.args.output.now) (g.O.Sink.written c.deliver.new.output)) verb_is
    (broken_so c.in-Some.verb _ _ c.in-Ok.bytes.items c.in-Ok-answer_of.answer _ _ _ _ _ _ _ _ c.in-Ok.ensures.ok told c.deliver.ensures w)

pub returns-clause-refused : goal.returns-clause-refused
returns-clause-refused g c =
    let told : IsAnswered c.in-Ok.bytes.items c.in-Some.verb c.in-Ok-answer_of.answer =
    subst (λ (bs : List ℕ). IsAnswered bs c.in-Some.verb c.in-Ok-answer_of.answer) c.deref-2.ensures.value c.in-Ok-answer_of.ensures in
    let verb_is = asked_so c.deref.result.now c.args.words.now.items c.in-Some.verb c.in-Some.ensures c.deref.ensures.value in
    λ w. subst (λ (v : Option Verb). Refuses v (g.I.Source.left c.args.input.now) (g.O.Sink.written c.args.output.now) (g.O.Sink.written c.deliver.new.output)) verb_is
    (refused_so c.in-Some.verb _ _ c.in-Ok.bytes.items c.in-Ok-answer_of.answer _ _ _ _ _ _ _ _ c.in-Ok.ensures.ok told c.deliver.ensures w)

pub returns-clause-done : goal.returns-clause-done
returns-clause-done g c =
    let told : IsAnswered c.in-Ok.bytes.items c.in-Some.verb c.in-Ok-answer_of.answer =
    subst (λ (bs : List ℕ). IsAnswered bs c.in-Some.verb c.in-Ok-answer_of.answer) c.deref-2.ensures.value c.in-Ok-answer_of.ensures in
    let verb_is = asked_so c.deref.result.now c.args.words.now.items c.in-Some.verb c.in-Some.ensures c.deref.ensures.value in
    λ w. subst (λ (v : Option Verb). Delivers v (g.I.Source.left c.args.input.now) c.deliver.new.made.items c.deliver.new.ran (g.O.Sink.written c.args.output.now) (g.O.Sink.written c.deliver.new.output)) verb_is
    (done_so c.in-Some.verb _ _ c.in-Ok.bytes.items c.in-Ok-answer_of.answer _ _ _ _ _ _ _ _ c.in-Ok.ensures.ok told c.deliver.ensures w)

pub returns-clause-headline : goal.returns-clause-headline
returns-clause-headline g c =
    let told : IsAnswered c.in-Ok.bytes.items c.in-Some.verb c.in-Ok-answer_of.answer =
    subst (λ (bs : List ℕ). IsAnswered bs c.in-Some.verb c.in-Ok-answer_of.answer) c.deref-2.ensures.value c.in-Ok-answer_of.ensures in
    let small : list_all is_byte c.in-Ok.bytes.items ≡ true =
    subst (λ (bs : List ℕ). list_all is_byte bs ≡ true) c.deref-3.ensures.value c.are_bytes.ensures in
    let verb_is = asked_so c.deref.result.now c.args.words.now.items c.in-Some.verb c.in-Some.ensures c.deref.ensures.value in
    λ w. subst (λ (v : Option Verb). AreAsAlone v (g.I.Source.left c.args.input.now) c.deliver.new.made.items (g.O.Sink.written c.args.output.now) (g.O.Sink.written c.deliver.new.output)) verb_is
    (headline_so (texts_carry c.texts_number_segments.ensures c.spelled_units_are_shaped.ensures c.cut_tokens_have_bytes.ensures c.sound_programs_carry.ensures c.sound_programs_are_never_lost.ensures) c.in-Some.verb _ _ c.in-Ok.bytes.items small c.in-Ok-answer_of.answer _ _ _ _ _ _ _ _ c.in-Ok.ensures.ok told c.deliver.ensures w)

pub returns-clause-complete : goal.returns-clause-complete
returns-clause-complete g c =
    let told : IsAnswered c.in-Ok.bytes.items c.in-Some.verb c.in-Ok-answer_of.answer =
    subst (λ (bs : List ℕ). IsAnswered bs c.in-Some.verb c.in-Ok-answer_of.answer) c.deref-2.ensures.value c.in-Ok-answer_of.ensures in
    let verb_is = asked_so c.deref.result.now c.args.words.now.items c.in-Some.verb c.in-Some.ensures c.deref.ensures.value in
    λ b i o. complete_so c.in-Some.verb _ _ c.in-Ok.bytes.items c.in-Ok-answer_of.answer _ _ _ _ _ _ _ _ c.in-Ok.ensures.ok told c.deliver.ensures
    (subst (λ (v : Option Verb). IsSurelyDone v (g.I.Source.left c.args.input.now)) (sym verb_is) b) o

pub returns-clause-decided : goal.returns-clause-decided
returns-clause-decided g c =
    let told : IsAnswered c.in-Ok.bytes.items c.in-Some.verb c.in-Ok-answer_of.answer =
    subst (λ (bs : List ℕ). IsAnswered bs c.in-Some.verb c.in-Ok-answer_of.answer) c.deref-2.ensures.value c.in-Ok-answer_of.ensures in
    let verb_is = asked_so c.deref.result.now c.args.words.now.items c.in-Some.verb c.in-Some.ensures c.deref.ensures.value in
    λ b i o. subst (λ (v : Option Verb). IsDecided c.deliver.result v (g.I.Source.left c.args.input.now) (g.O.Sink.written c.args.output.now) (g.O.Sink.written c.deliver.new.output)) verb_is
    (decided_so c.in-Some.verb _ _ c.in-Ok.bytes.items c.in-Ok-answer_of.answer _ _ _ _ _ _ _ _ c.in-Ok.ensures.ok told c.deliver.ensures
    (subst (λ (v : Option Verb). IsLeftToWords v (g.I.Source.left c.args.input.now)) (sym verb_is) b) o)

pub returns-clause-faulty : goal.returns-clause-faulty
returns-clause-faulty g c =
    let told : IsAnswered c.in-Ok.bytes.items c.in-Some.verb c.in-Ok-answer_of.answer =
    subst (λ (bs : List ℕ). IsAnswered bs c.in-Some.verb c.in-Ok-answer_of.answer) c.deref-2.ensures.value c.in-Ok-answer_of.ensures in
    let verb_is = asked_so c.deref.result.now c.args.words.now.items c.in-Some.verb c.in-Some.ensures c.deref.ensures.value in
    λ line b i o. faulty_so c.in-Some.verb _ _ c.in-Ok.bytes.items line c.in-Ok-answer_of.answer _ _ _ _ _ _ _ _ c.in-Ok.ensures.ok told c.deliver.ensures
    (subst (λ (v : Option Verb). IsSurelyRefused v (g.I.Source.left c.args.input.now) line) (sym verb_is) b) o

pub returns-clause-programs : goal.returns-clause-programs
returns-clause-programs g c =
    let told : IsAnswered c.in-Ok.bytes.items c.in-Some.verb c.in-Ok-answer_of.answer =
    subst (λ (bs : List ℕ). IsAnswered bs c.in-Some.verb c.in-Ok-answer_of.answer) c.deref-2.ensures.value c.in-Ok-answer_of.ensures in
    let verb_is = asked_so c.deref.result.now c.args.words.now.items c.in-Some.verb c.in-Some.ensures c.deref.ensures.value in
    subst (λ (v : Option Verb). MadeAt c.deliver.result v (g.I.Source.left c.args.input.now) (g.O.Sink.written c.args.output.now) (g.O.Sink.written c.deliver.new.output) c.args.made.now.items c.deliver.new.made.items) verb_is
    (made_so (texts_carry c.texts_number_segments.ensures c.spelled_units_are_shaped.ensures c.cut_tokens_have_bytes.ensures c.sound_programs_carry.ensures c.sound_programs_are_never_lost.ensures) c.in-Some.verb _ _ c.in-Ok.bytes.items c.in-Ok-answer_of.answer _ _ _ _ _ _ _ _ c.in-Ok.ensures.ok told c.deliver.ensures)
