-- A segment that is not live is brought in, over the words of segments that were given up.
use Rattle.std.proofs.Common.{◌≡◌, ◌+◌, ◌≤◌, ◌++◌, List, ℕ, length, take, drop, Some, sym, ap, subst, ◌∙◌}
use Rattle.std.specs.Prelude.{IsSomeAnd}
use Rattle.std.proofs.lemmas.List.{with_items_is}
use Rattle.hp_program.specs.declared.program.Program.{Program}
use Rattle.mpe_regions.specs.Area.{is_live}
use Rattle.mpe_overlay.specs.Codes.{codes_of, key_of, segment_at}
use Rattle.mpe_overlay.specs.Holds.{HoldsCode}
use Rattle.mpe_overlay.proofs.HoldLemmas.{CanBring, can_bring, few_regions, brought_fits, brought_live, holds-brought}
use Rattle.mpe_overlay.proofs.overlay.Overlay.need.Goals as goal
use Rattle.mpe_overlay.proofs.overlay.Overlay.need.Goals.{After-segment_of-words}

-- what is known once the words are at hand
known : (c : After-segment_of-words)
    → CanBring c.args.self.now.base c.key-key.result c.args.self.now.area.items c.segment_of-words.result.now c.touch.new.self (codes_of c.args.self.now.programs.items)
known c =
    let self = c.args.self.now in
    let codes = codes_of self.programs.items in
    let none = c.if-touch.ensures {u = tt} in
    let value : segment_at codes (key_of c.args.program c.args.seg) ≡ Some c.segment_of-words.result.now =
    ap (λ (ps : List Program). segment_at (codes_of ps) (key_of c.args.program c.args.seg)) (sym c.deref.ensures.value)
    ∙ c.segment_of-words.ensures.value in
    let Size : ℕ → Type 0 = λ k. IsSomeAnd (segment_at codes k) (λ words. length words ≤ self.regions.area.size) in
    can_bring self.base c.key-key.result self.area.items c.segment_of-words.result.now self.regions c.touch.new.self codes self.holds none.kept c.touch.ensures.sound none.live
    (ap (segment_at codes) c.key-key.ensures ∙ value) c.segment_of-words.ensures.some (subst Size (sym c.key-key.ensures) c.requires)

pub make_room-place-requires-clause-free : goal.make_room-place-requires-clause-free
make_room-place-requires-clause-free c =
    let self = c.args.self.now in
    let k = known (goal.at.make_room-place-requires-clause-free c).After-segment_of-words in
    few_regions self.base c.key-key.result self.area.items c.segment_of-words.result.now c.touch.new.self (codes_of self.programs.items) k.holds k.sound k.absent k.is

pub copy_words-requires : goal.copy_words-requires
copy_words-requires c =
    let self = c.args.self.now in
    let k = known (goal.at.copy_words-requires c).After-segment_of-words in
    rw c.deref_mut.ensures.value
    (brought_fits self.base c.key-key.result c.make_room-place.result.0 self.area.items c.segment_of-words.result.now c.touch.new.self (codes_of self.programs.items)
    k.holds k.sound k.absent k.some k.fits c.make_room-place.ensures.place)

pub invariant_of-self-2 : goal.invariant_of-self-2
invariant_of-self-2 c =
    let self = c.args.self.now in
    let codes = codes_of self.programs.items in
    let place = c.make_room-place.result.0 in
    let words = c.segment_of-words.result.now in
    let regions = c.make_room-place.new.regions in
    let k = known (goal.at.invariant_of-self-2 c).After-segment_of-words in
    let Copied : List ℕ → List ℕ = λ xs. take place xs ++ (words ++ drop (place + length words) xs) in
    let whole = with_items_is self.area c.copy_words.new.area (c.copy_words.auto.area ∙ c.deref_mut.ensures.len) in
    let copied : c.copy_words.new.area ≡ Copied self.area.items = c.copy_words.ensures
    ∙ ap Copied c.deref_mut.ensures.value in
    let Holds : List ℕ → Type 0 = λ ws. HoldsCode self.base ws regions codes in
    record {
      holds = subst Holds (sym (whole ∙ copied))
          (holds-brought self.base c.key-key.result place self.area.items words c.touch.new.self regions codes k.holds k.sound k.absent k.is k.some k.fits
          c.make_room-place.ensures.area c.make_room-place.ensures.place c.make_room-place.ensures.room);
    }

pub returns-clause-there : goal.returns-clause-there
returns-clause-there c =
    let k = known (goal.at.returns-clause-there c).After-segment_of-words in
    let regions = c.make_room-place.new.regions in
    ap (λ (key : ℕ). is_live key regions.area) (sym c.key-key.ensures)
    ∙ brought_live c.key-key.result c.segment_of-words.result.now c.touch.new.self.area regions.area k.sound k.absent k.some k.fits c.make_room-place.ensures.area
