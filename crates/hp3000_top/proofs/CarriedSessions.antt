-- A session of a program that carries its units follows their run.
use Rattle.std.proofs.Common.{◌≡◌, ℕ, zero, suc, ◌+◌, ◌<◌, ◌≤◌, true, List, [], ◌∷◌, length, refl, sym, ap, subst, ◌∙◌, arith}
use Rattle.std.specs.Prelude.{slice_index}
use Rattle.std.specs.List.{list_all}
use Rattle.std.proofs.lemmas.Bool.{and_parts, and_from, ltb-true, lt-ltb}
use Rattle.hp_program.specs.declared.program.Program.{Program}
use Rattle.hp_program.specs.Programs.{segments_of}
use Rattle.spl_numbered.specs.hp_flat.Step as flat
use Rattle.spl_numbered.specs.hp_flat.Views.{opened_of}
use Rattle.job_gen.specs.hp_session.State.{Machine}
use Rattle.job_gen.specs.job_text.Fits.{SeatFits}
use Rattle.job_gen.specs.job_text.States.{SeatValue}
use Rattle.job_gen.specs.job_text.Views.{seat_value}
use Rattle.job_gen.specs.mpe_session.declared.seat.Seat.{Seat}
use Rattle.job_runs.specs.mpe_worlds.Worlds.{Run}
use Rattle.spl_program.specs.spl_meaning.Tables.{Source}
use Rattle.spl_program.specs.spl_meaning.Bodies.{Reached, reached_behind, data_words, program_from}
use Rattle.spl_program.specs.spl_meaning.Runs.{AreBytes, LinesAreBytes, alone}
use Rattle.spl_numbered.specs.spl_carries.Segments.{words_from, initial_words}
use Rattle.spl_numbered.specs.spl_carries.Carries as carries
use Rattle.spl_numbered.specs.spl_carries.Carries.{Forth, MaySit, IsPrefix, Carries, flat_point}
use Rattle.spl_linkable.specs.spl_built.Built.{IsBuilt}
use Rattle.spl_safe_programs.specs.spl_sound_programs.Laws.{SoundProgramsCarry}
use Rattle.hp3000_top.specs.Programs.{IsMade}
use Rattle.spl_numbered.specs.spl_bounds.Segments.{NumbersSegments}
use Rattle.spl_numbered.specs.spl_bounds.Programs.{IsOf}
use Rattle.spl_safe_programs.specs.Laws.{SoundProgramsAreNeverLost}
use Rattle.spl_program.specs.spl_cuts.Signs.{Listed}
use Rattle.spl_program.specs.spl_cuts.Lexemes.{lexemes}
use Rattle.spl_program.specs.spl_reading.Readers.{Got}
use Rattle.spl_program.specs.spl_grammar.Verdicts.{Verdict, spelled}
use Rattle.spl_tree.specs.Symbols.{Lexeme}
use Rattle.spl_tree.specs.DeclarationTrees.{UnitTree}
use Rattle.spl_shapes.specs.Shapes.{is_shaped_unit}
use Rattle.spl_shapes.specs.Laws.{HaveBytes, SpelledUnitsAreShaped, CutTokensHaveBytes}
use Rattle.spl_safe_programs.specs.spl_sound_programs.spl_ruled_bodies.Laws.{AreShaped}
use Rattle.spl_numbered.specs.Laws.{TextsNumberSegments}
use Rattle.spl_linkable.specs.spl_places.Programs.{Each}
use Rattle.spl_program.specs.Texts.{most_tokens, AreCut, AreUnits}
use Rattle.spl_program.specs.Programs.{IsProgram}
use Rattle.spl_program.specs.Texts as t
use Rattle.spl_program.proofs.ProgramLaws.{programs_unique}
use Rattle.hp3000_top.specs.Carried.{is_byte, units_seat, AreNeverLost, FollowsUnits}
use Rattle.hp3000_top.proofs.Sureness.{kept_rules}

-- ---- bytes

-- numbers that are bytes one by one are all bytes
pub all_bytes : (bs : List ℕ) → ((i : ℕ) → slice_index bs i < 256) → list_all is_byte bs ≡ true
all_bytes [] small = refl
all_bytes (b ∷ bs) small = and_from (is_byte b) (list_all is_byte bs) (lt-ltb b 256 (small 0)) (all_bytes bs (λ i. small (suc i)))

are_bytes : (bs : List ℕ) → list_all is_byte bs ≡ true → AreBytes bs
are_bytes [] h = tt
are_bytes (b ∷ bs) h = let two = and_parts (is_byte b) (list_all is_byte bs) h in (ltb-true b 256 two.0, are_bytes bs two.1)

lines_are_bytes : (ls : List (List ℕ)) → list_all (λ l. list_all is_byte l) ls ≡ true → LinesAreBytes ls
lines_are_bytes [] h = tt
lines_are_bytes (l ∷ ls) h =
    let two = and_parts (list_all is_byte l) (list_all (λ l. list_all is_byte l) ls) h in (are_bytes l two.0, lines_are_bytes ls two.1)

-- ---- data words

words_count : (word : ℕ → ℕ) (a n : ℕ) → length (words_from word a n) ≡ n
words_count word a zero = refl
words_count word a (suc n) = ap suc (words_count word (suc a) n)

program_words : (words : ℕ) (at : Reached) (us : List Source) → (program_from words at us).words ≡ words
program_words words at [] = refl
program_words words at (u ∷ us) = program_words words (reached_behind u at) us

-- there are as many as the areas have
initial_count : (us : List Source) → length (initial_words us) ≡ data_words us
initial_count us = words_count _ 0 _ ∙ program_words (data_words us) _ us

-- ---- programs

-- the units of texts number their segments
all_number : TextsNumberSegments → {n : ℕ} {texts : List (List ℕ)} {xs : List Listed} {us : List Source} → AreCut n texts xs → AreUnits xs us
    → Each NumbersSegments us
all_number law t.AreCut.none t.AreUnits.none = tt
all_number law {n} (t.AreCut.more {text = text} {x = x} c cs) (t.AreUnits.more {u = u} s ss) =
    (law n most_tokens text x u c s.segments s.spelled, all_number law cs ss)

-- the tree of a unit that tokens of bytes spell is shaped
shaped_spelled : SpelledUnitsAreShaped → (ts : List Lexeme) (u : UnitTree) → Verdict ts (Got u []) → HaveBytes ts → is_shaped_unit u ≡ true
shaped_spelled law ts u (spelled w calm) bytes = law u ts w bytes

-- so are the trees of the units of texts
all_shaped : SpelledUnitsAreShaped → CutTokensHaveBytes → {n : ℕ} {texts : List (List ℕ)} {xs : List Listed} {us : List Source} → AreCut n texts xs
    → AreUnits xs us → AreShaped us
all_shaped trees tokens t.AreCut.none t.AreUnits.none = tt
all_shaped trees tokens {n} (t.AreCut.more {text = text} {x = x} c cs) (t.AreUnits.more {u = u} s ss) =
    (shaped_spelled trees (lexemes x) u.tree s.spelled (tokens n most_tokens text x c), all_shaped trees tokens cs ss)

-- what is built of the units of texts carries them, and they are never lost
abbrev pub TextsCarry : Type 0
TextsCarry = (texts : List (List ℕ)) (us : List Source) (q : Program) → IsProgram texts us → IsBuilt us q → Carries q us × AreNeverLost us

pub texts_carry : TextsNumberSegments → SpelledUnitsAreShaped → CutTokensHaveBytes → SoundProgramsCarry → SoundProgramsAreNeverLost → TextsCarry
texts_carry numbers trees tokens law found texts us q k b =
    let rules = kept_rules texts us k in
    let is : IsOf us b.modules b.layout.globals.items q = record {
      sound = rules.sound;
      spelled = rules.spelled;
      within = rules.limits;
      are_modules = b.are_modules;
      makes = b.linked.makes;
      links = b.linked.links;
    } in
    let number = all_number numbers k.spell.cut k.spell.units in
    let shaped = all_shaped trees tokens k.spell.cut k.spell.units in (
      law us b.modules b.layout.globals.items q is number shaped b.linked.faultless b.is_layout.globals,
      found us b.modules b.layout.globals.items q is number shaped b.linked.faultless,
    )

-- what is made of texts carries their units
pub units_carried : TextsCarry → (texts : List (List ℕ)) (us : List Source) (q : Program) → IsProgram texts us → IsMade texts q
    → Carries q us × AreNeverLost us
units_carried law texts us q k m = law texts us q k (subst (λ (ys : List Source). IsBuilt ys q) (programs_unique texts m.units us m.are k) m.built)

-- ---- sessions

-- a seat of a job may be taken
sits : (programs : ℕ) (us : List Source) (q : Program) (seat : Seat) → SeatFits programs (seat_value seat)
    → list_all (λ l. list_all is_byte l) (seat_value seat).lines ≡ true → Carries q us → length q.globals.items + 4 ≤ seat.stack
    → MaySit us (units_seat (seat_value seat))
sits programs us q seat fit bytes c large =
    let words : length q.globals.items ≡ data_words us = ap length c.globals ∙ initial_count us in
    record {
      least_stack = fit.least_stack;
      most_stack = fit.stack;
      most_extra = fit.extra;
      least_room = fit.least_room;
      most_room = fit.room;
      data' = omega (arith, large, words);
      bytes = lines_are_bytes (seat_value seat).lines bytes;
    }

-- a session that stands where its program's flat run stands
follows_forth : (us : List Source) (q : Program) (seat : SeatValue) (r : Run) (steps : ℕ) → AreNeverLost us
    → r.machine ≡ carries.flat q (units_seat seat) steps → Forth q us (units_seat seat) steps → FollowsUnits us seat r
follows_forth us q seat r steps found is (carries.Forth.follows at point soon) = FollowsUnits.follows at (point ∙ ap flat_point (sym is))
follows_forth us q seat r steps found is (carries.Forth.strayed at stray front) =
    FollowsUnits.strayed at stray (found (units_seat seat) at) (subst (λ (m : Machine). IsPrefix (alone us (units_seat seat) at).printed m.printed) (sym is) front)

pub follows_units : TextsCarry → (programs : ℕ) (texts : List (List ℕ)) (us : List Source) (q : Program) (seat : Seat) (r : Run)
    → IsProgram texts us → IsMade texts q → SeatFits programs (seat_value seat) → list_all (λ l. list_all is_byte l) (seat_value seat).lines ≡ true
    → length q.globals.items + 4 ≤ seat.stack
    → r.machine ≡ flat.after (segments_of q) r.steps (opened_of q seat.lines.items seat.stack seat.extra seat.room) → FollowsUnits us (seat_value seat) r
follows_units law programs texts us q seat r k m fit bytes large is =
    let c = units_carried law texts us q k m in
    follows_forth us q (seat_value seat) r r.steps c.1 is
    (c.0.forth (units_seat (seat_value seat)) (sits programs us q seat fit bytes c.0 large) r.steps)
