-- MOVE of a string: it lies in the code behind a branch, its offset and its length are pushed, and then one element moves after the other.
use Rattle.std.proofs.Common.{◌≡◌, ℕ, suc, ◌+◌, ◌-◌, ◌*◌, ◌/◌, ◌%◌, ◌<◌, ◌≤◌, Bool, true, false}
use Rattle.std.proofs.Common.{List, [], ◌∷◌, ◌++◌, map, length, Some, refl, sym, ap, subst, ◌∙◌, arith}
use Rattle.std.specs.Prelude.{◌^◌, nat_lt, if◌then◌else◌}
use Rattle.std.proofs.lemmas.List.{append-nil, append_assoc}
use Rattle.spl_moves.specs.hp_word.Bits.{shifted}
use Rattle.spl_moves.proofs.hp_word_proofs.ShiftLemmas.{shifted-Lsl}
use Rattle.spl_moves.specs.hp_instr.declared.instruction.Instr.TheVariants as i
use Rattle.spl_moves.specs.hp_program.Programs.{code_word}
use Rattle.spl_moves.specs.hp_session.State.{Machine}
use Rattle.spl_moves.specs.hp_word_rows.WordRows.{shift_of, shifting}
use Rattle.spl_moves.specs.hp_memory_rows.MemoryRows.{code_loaded}
use Rattle.spl_moves.specs.hp_flat.Step.{at_left}
use Rattle.spl_moves.proofs.hp_yields_proofs.MemoryYields as memory
use Rattle.spl_moves.proofs.hp_yields_proofs.WordYields as words
use Rattle.spl_moves.specs.spl_tree.declared.expressions.Kind.{Kind}
use Rattle.spl_moves.specs.spl_branch.declared.pieces.Piece.{Piece}
use Rattle.spl_moves.specs.spl_branch.declared.pieces.Piece.TheVariants.{Literal, Place, Mark}
use Rattle.spl_moves.specs.spl_meaning.Elements.{as_words, moved_text, moved_list}
use Rattle.spl_moves.specs.spl_meaning.References.{Setting}
use Rattle.spl_moves.specs.spl_meaning.States.{Data, State, done}
use Rattle.spl_moves.specs.spl_code.Code.{as_value}
use Rattle.spl_moves.specs.spl_code.Constants.{constant, text_offset}
use Rattle.spl_moves.specs.spl_code.Instructions.{LDI, LDNI, LSL, ORI, BR, LOAD_BEFORE}
use Rattle.spl_moves.specs.spl_code.Parts.{Part, Wanted, pieces, piece, ◌⨟◌}
use Rattle.spl_moves.specs.spl_statement_code.Effects.{move_of, text_scaled, text_count}
use Rattle.spl_moves.specs.spl_follow.Leading.{Leads}
use Rattle.spl_moves.specs.spl_follow.Spots.{Spot, pos, half, landed, next_word, on}
use Rattle.spl_moves.specs.spl_follow.Matching.{IsValue}
use Rattle.spl_moves.specs.spl_follow.Following.{tally, Follows, NoExit}
use Rattle.spl_moves.specs.spl_follow.Doing.{doing, turning}
use Rattle.spl_moves.specs.spl_follow.Yielding.{Yields}
use Rattle.spl_moves.specs.spl_follow.Standing.{Stands, IsClosed}
use Rattle.spl_moves.specs.spl_follow.Parts.{Ready, Gives}
use Rattle.spl_moves.specs.spl_follow.Simulating.{Surroundings}
use Rattle.spl_moves.proofs.spl_follow_proofs.FollowLemmas.{then_follows}
use Rattle.spl_moves.proofs.spl_follow_proofs.KeepLemmas.{values_join, value_word}
use Rattle.spl_moves.proofs.spl_follow_proofs.PartLemmas.{stand_in_order, stand_from_place}
use Rattle.spl_moves.proofs.spl_follow_proofs.RowLemmas.{shown, no_print}
use Rattle.spl_moves.proofs.spl_follow_proofs.StandLemmas.{closed_last}
use Rattle.spl_moves.proofs.spl_follow_proofs.WayLemmas.{lead}
use Rattle.spl_moves.specs.spl_values.Reached.{IsWhole}
use Rattle.spl_moves.proofs.spl_values_proofs.ConstantLemmas.{constants_give}
use Rattle.spl_moves.proofs.spl_values_proofs.GiveLemmas.{last_leads, ready_room, row_gives, row_behind}
use Rattle.spl_moves.proofs.spl_values_proofs.WholeLemmas.{whole_then, whole_last, whole_behind}
use Rattle.spl_moves.specs.Laws.{AreUnits}
use Rattle.spl_scans.specs.Laws.{AreBytes, text_moved, TextMovesPerform}
use Rattle.spl_moves.proofs.CountLemmas.{at_address}
use Rattle.spl_moves.proofs.MoveLemmas.{Spelled, text_follows}
use Rattle.spl_moves.proofs.PartLemmas.{EndsAt, IsSource, move_leads, move_whole, next_ready, moves_perform}
use Rattle.spl_scans.proofs.SpellLemmas.{text_units, units_of_kind, units_counted, few_units}
use Rattle.spl_scans.proofs.SpellLemmas.{WordsIn, text_spelled, stands_inside, literals_stand, literals_clear}

-- ---- whole parts

offset_whole : (text : List ℕ) → IsWhole (text_offset text)
offset_whole text = record {
  closed = λ h ws.
      closed_last ((piece (BR h) ⨟ piece (Mark (suc h)) ⨟ pieces (map Literal (as_words text)) ⨟ piece (Place (suc h)) ⨟ piece (Mark h))
      (suc (suc h)) ws).pieces
      (LOAD_BEFORE ∷ []) refl;
  keeps = λ h ws. record { rest = []; is = sym (append-nil ws) };
}

pub scaled_whole : (bytes : Bool) (text : List ℕ) → IsWhole (text_offset text ⨟ pieces (text_scaled bytes))
scaled_whole true text = whole_behind (text_offset text) (LSL 1 ∷ []) (offset_whole text) refl
scaled_whole false text = whole_last (text_offset text) (offset_whole text)

pub constant_closed : (c : ℕ) → IsClosed (constant c)
constant_closed c = by (nat_lt c 256) (nat_lt 65280 c) where
  by : (a b : Bool)
      → IsClosed (if a then LDI c ∷ [] else if b then LDNI (65536 - c) ∷ [] else LDI (c / 256) ∷ LSL 8 ∷ ORI (c % 256) ∷ [])
  by true b = refl
  by false true = refl
  by false false = refl

-- ---- the offset of a string

-- A string stands in the segment of p, and the code from p to q has pushed its offset.
pub record IsPlaced (z : Surroundings) (p : Spot) (q : Spot) (k : ℕ) (text : List ℕ) (s : State) (m : Machine) : Type 0 where
  offset : ℕ
  words : WordsIn z.ground p.seg offset (as_words text)
  few : offset + length (as_words text) < 16383
  gives : Gives z.ground z.rate z.setting z.sites.marks as_value 1 (on p) q k s s.begun m (done (offset ∷ []) s)

-- a branch before a value keeps what it keeps
from_landed : (st : Setting) (q : Spot) (n k : ℕ) (d : Data) (r : Spot) (m : Machine) (vs : List ℕ) (s : State) (e : Machine)
    → IsValue st q n k d (landed r m) vs s e → IsValue st q n k d m vs s e
from_landed st q n k d r m vs s e x = record {
  at = x.at;
  wide = x.wide;
  matches = x.matches;
  stand = x.stand;
  small = x.small;
  kept = x.kept;
  silent = x.silent;
}

half_few : (b : Bool) → half b ≤ 1
half_few true = omega arith
half_few false = omega arith

offset_placed : (z : Surroundings) (d k need : ℕ) (text : List ℕ) → 1 ≤ need → (h : ℕ) (ws : List Wanted) (p q : Spot) (s : State) (m : Machine)
    → Stands z.ground z.sites (on p) (text_offset text h ws).pieces q → Ready z.setting d (on p) k need s s.begun m → IsPlaced z p q k text s m
offset_placed z d k need text enough h ws p q s m stands ready = record {
  offset = x.offset;
  words = subst (λ (n : ℕ). WordsIn z.ground n x.offset (as_words text)) stands.1.inside lits.2;
  few = omega (arith, low, long);
  gives =
      then_follows z.ground z.rate (pos x - pos p) 0 z.rate.reach (pos q - pos e) 1 z.rate.reach (pos q - pos p) 1 z.rate.reach (tally s) m (tally s) n
      (IsValue z.setting q 1 k s.now m) NoExit (done (x.offset ∷ []) s)
      (lead z.ground z.rate (on p) x (turning (i.Branch false false 0) (z.sites.marks h) x) s.begun s m n stands.1 ready.at
      (shown z.setting s m k ready.matches).ending refl refl (no_print m n refl))
      (let f = row_gives z.ground z.rate z.setting z.sites.marks d (on e) q (doing z.ground.segments (i.LoadCode true 1) q) k need s s.begun n x.offset
      (code_loaded z.ground.segments true 1 (at_left n)) loads refl behind pushes (omega (arith, low, long)) in
      (f.0, f.1, from_landed z.setting q 1 k s.now (z.sites.marks h) m (x.offset ∷ []) s f.0 f.2))
      (omega (arith, first, order, near, last)) (omega (arith, many)) (omega (arith, many));
}
  where
    lits_of : List Piece
    lits_of = map Literal (as_words text)

    rest : List Piece
    rest = Place (suc h) ∷ Mark h ∷ LOAD_BEFORE ∷ []

    x : Spot
    x = stands.0

    together : ((lits_of ++ Place (suc h) ∷ []) ++ Mark h ∷ []) ++ LOAD_BEFORE ∷ [] ≡ lits_of ++ rest
    together =
        ap (λ (ps : List Piece). ps ++ LOAD_BEFORE ∷ []) (append_assoc lits_of (Place (suc h) ∷ []) (Mark h ∷ []))
        ∙ append_assoc lits_of (Place (suc h) ∷ Mark h ∷ []) (LOAD_BEFORE ∷ [])

    cut : (r : Spot) × Stands z.ground z.sites (on x) lits_of r × Stands z.ground z.sites (on r) rest q × (pos x ≤ pos r) × (pos r ≤ pos q)
    cut = stand_from_place z.ground z.sites lits_of rest x q (literals_clear z.ground z.sites (as_words text))
        (subst (λ (ps : List Piece). Stands z.ground z.sites (on x) ps q) together stands.2.2)

    y : Spot
    y = cut.0

    e : Spot
    e = next_word y

    lits : (y.seg ≡ x.seg) × (y.offset ≡ x.offset + length (as_words text)) × WordsIn z.ground x.seg x.offset (as_words text)
    lits = literals_stand z.ground z.sites (as_words text) x y cut.1

    low : y.offset < 16383
    low = z.ground.short y.seg y.offset (z.sites.marks (suc h)).offset cut.2.0

    long : y.offset ≡ x.offset + length (as_words text)
    long = lits.1

    n : Machine
    n = landed (z.sites.marks h) m

    there : z.sites.marks h ≡ e
    there = cut.2.2.0

    behind : Ready z.setting d (on e) k need s s.begun n
    behind = record { at = there; owes = refl; matches = ready.matches; silent = ready.silent; room = ready.room; fuel = ready.fuel }

    loads : Leads z.ground (on e) q (doing z.ground.segments (i.LoadCode true 1) q)
    loads = last_leads z.ground z.sites (on e) (i.LoadCode true 1) q cut.2.2.2

    there_word : code_word z.ground.segments (z.sites.marks h).seg y.offset ≡ Some x.offset
    there_word =
        ap (λ (a : ℕ). code_word z.ground.segments a y.offset) (ap (λ (a : Spot). a.seg) there) ∙ cut.2.0
        ∙ ap (λ (a : Spot). Some a.offset) stands.2.0

    pushes : Yields 0 (x.offset ∷ []) n (code_loaded z.ground.segments true 1 (at_left n))
    pushes =
        (memory.before_pushed z.ground.segments y.offset x.offset (at_left n) (ap (λ (a : Spot). a.offset) there) (omega (arith, low)) there_word
        (ready_room z.setting d (on e) k need s s.begun n behind enough)).words

    first : pos p ≤ pos x
    first = let rise = stands.1.rise in omega (arith, rise)

    order : pos x ≤ pos y
    order = cut.3

    near : pos y ≤ pos e
    near = let few = half_few y.right in omega (arith, few)

    last : pos e ≤ pos q
    last = let rise = loads.rise in omega (arith, rise)

    many : 8 ≤ z.rate.reach
    many = z.rate.enough

-- ---- as the move wants it

-- LSL by one doubles a word
doubled : (st : Setting) (p : Spot) (k : ℕ) (d : Data) (m : Machine) (v : ℕ) (s : State) (n : Machine) → IsValue st p 1 k d m (v ∷ []) s n
    → Yields 1 (2 * v % 65536 ∷ []) n (shifting 2 1 (at_left n))
unfolding shift_of
doubled st p k d m v s n x =
    let there = x.matches.words in
    let twice : v * 2 ^ 1 % 65536 ≡ 2 * v % 65536 = omega arith in
    subst (λ (u : ℕ). Yields 1 (u ∷ []) n (shifting 2 1 (at_left n)))
    (ap (λ (u : ℕ). shifted (shift_of 2) u 1) (value_word st p 1 k 0 0 d m (v ∷ []) s n x refl) ∙ shifted-Lsl v 1 (omega arith) ∙ twice)
    (words.shift 2 1 (at_left n) (omega (arith, there))).words

-- its elements stand in the segment of p, and the code from p to q has pushed where
pub record IsSpelled (z : Surroundings) (p : Spot) (q : Spot) (k : ℕ) (bytes : Bool) (text : List ℕ) (s : State) (m : Machine) : Type 0 where
  pub offset : ℕ
  pub spelled : Spelled z.ground bytes p.seg offset (text_units bytes text)
  pub few : length (text_units bytes text) < 32768
  pub gives : Gives z.ground z.rate z.setting z.sites.marks as_value 1 (on p) q k s s.begun m (done (offset ∷ []) s)

pub offset_spelled : (z : Surroundings) (d k need : ℕ) (bytes : Bool) (text : List ℕ) → AreBytes text → 1 ≤ need → (h : ℕ) (ws : List Wanted) (p q : Spot)
    (s : State) (m : Machine) → Stands z.ground z.sites (on p) ((text_offset text ⨟ pieces (text_scaled bytes)) h ws).pieces q
    → Ready z.setting d (on p) k need s s.begun m → IsSpelled z p q k bytes text s m
offset_spelled z d k need true text small enough h ws p q s m stands ready =
    let cut = stand_in_order z.ground z.sites (text_offset text h ws).pieces (LSL 1 ∷ []) (on p) q ((offset_whole text).closed h ws) stands in
    let x = offset_placed z d k need text enough h ws p cut.0 s m cut.1 ready in
    let few = x.few in
    let most = few_units true text in
    let rise = cut.3 in
    let once : 2 * x.offset % 65536 ≡ 2 * x.offset = omega (arith, few) in
    record {
      offset = 2 * x.offset;
      spelled = text_spelled z.ground true text p.seg x.offset x.words small;
      few = omega (arith, few, most);
      gives = row_behind z.ground z.rate z.setting z.sites.marks (on p) cut.0 q (doing z.ground.segments (i.Shifted 2 1) q) 1 k s s.begun m (x.offset ∷ [])
          (2 * x.offset) (λ n. shifting 2 1 (at_left n)) (omega (arith, rise)) (last_leads z.ground z.sites (on cut.0) (i.Shifted 2 1) q cut.2) (λ n. refl)
          (λ n v. subst (λ (u : ℕ). Yields 1 (u ∷ []) n (shifting 2 1 (at_left n))) once (doubled z.setting cut.0 k s.now m x.offset s n v))
          (omega (arith, few)) x.gives;
    }
offset_spelled z d k need false text small enough h ws p q s m stands ready =
    let x = offset_placed z d k need text enough h ws p q s m
    (subst (λ (ps : List Piece). Stands z.ground z.sites (on p) ps q) (append-nil (text_offset text h ws).pieces) stands) ready in
    let few = x.few in
    record {
      offset = x.offset;
      spelled = text_spelled z.ground false text p.seg x.offset x.words small;
      few = omega (arith, few);
      gives = x.gives;
    }

-- ---- the move

pub text_source : (z : Surroundings) (d k need : ℕ) (bytes : Bool) (t : Kind) (text : List ℕ) → AreUnits bytes t → AreBytes text → 3 ≤ need
    → IsSource z d k need t (text_moved bytes text) (λ p s. moved_text text p s)
text_source z d k need bytes t text one small enough = record {
  whole = whole_then front (piece (move_of bytes 1)) front_whole (move_whole bytes 1);
  does = λ h ws p q c s m d0 m0 stands wanted v room fuel.
      let a = text_offset text ⨟ pieces (text_scaled bytes) in
      let cut = stand_in_order z.ground z.sites (front h ws).pieces (move_of bytes 1 ∷ []) (on p) q (front_whole.closed h ws) stands in
      let first = stand_in_order z.ground z.sites (a h ws).pieces (constant (text_count bytes text % 65536)) (on p) cut.0
      ((scaled_whole bytes text).closed h ws) cut.1 in
      let rise = first.3 in
      let middle = first.4 in
      let last = cut.4 in
      let many = z.rate.enough in
      let x = offset_spelled z d (k + 1) 2 bytes text small (omega arith) h ws p first.0 s m first.1
      (next_ready z.setting d p 1 k need 2 (c ∷ []) d0 m0 s m v room enough fuel) in
      let few = x.few in
      let count : text_count bytes text % 65536 ≡ length (text_units bytes text) =
      ap (λ (n : ℕ). n % 65536) (units_counted bytes text) ∙ omega (arith, few) in
      let inside : p.seg ≡ cut.0.seg = sym (stands_inside z.ground z.sites (front h ws).pieces (on p) cut.0 cut.1) in
      let f = x.gives in
      let two = values_join z.setting p first.0 1 1 k d0 m0 (c ∷ []) (x.offset ∷ []) s m s f.0 v f.2 in
      let g = (constants_give z d (k + 2) 1 (text_count bytes text % 65536) (omega arith) (omega arith)).does h ws
      (on first.0) cut.0 s s.begun f.0 first.2 wanted
      (next_ready z.setting d first.0 2 k need 1 (c ∷ x.offset ∷ []) d0 m0 s f.0 two room (omega (arith, enough)) fuel) in
      let three = values_join z.setting first.0 cut.0 2 1 k d0 m0 (c ∷ x.offset ∷ []) (text_count bytes text % 65536 ∷ []) s f.0 s g.0 two g.2 in
      then_follows z.ground z.rate (pos first.0 - pos p) 1 z.rate.reach (pos q - pos first.0) 1 z.rate.reach (pos q - pos p) 1 z.rate.reach (tally s) m
      (tally s) f.0
      (EndsAt z.setting q k d0 m0) NoExit (moved_text text (at_address z.setting.split t c) s) f.1
      (then_follows z.ground z.rate (pos cut.0 - pos first.0) 1 z.rate.reach (pos q - pos cut.0) 1 z.rate.reach (pos q - pos first.0) 1 z.rate.reach
      (tally s) f.0 (tally s) g.0
      (EndsAt z.setting q k d0 m0) NoExit (moved_text text (at_address z.setting.split t c) s) g.1
      (subst (λ (vs : List ℕ). Follows z.ground z.rate (pos q - pos cut.0) 1 z.rate.reach (tally s) g.0 (EndsAt z.setting q k d0 m0) NoExit
      (moved_list vs (at_address z.setting.split t c) s)) (sym (units_of_kind bytes t text one.0))
      (text_follows z.ground z.rate z.setting cut.0 q k d0 m0 bytes 1 (move_leads z.ground z.sites (on cut.0) bytes 1 q cut.2)
      (omega (arith, room, enough)) z.setting.split
      t one.0 one.1 refl refl (text_units bytes text) c x.offset s g.0 few
      (subst (λ (n : ℕ). Spelled z.ground bytes n x.offset (text_units bytes text)) inside x.spelled)
      (subst (λ (n : ℕ). IsValue z.setting cut.0 3 k d0 m0 (c ∷ x.offset ∷ n ∷ []) s g.0) count three)))
      (omega (arith, middle, last)) (omega (arith, many)) (omega (arith, many)))
      (omega (arith, rise, middle, last)) (omega (arith, many)) (omega (arith, many));
}
  where
    front : Part
    front = text_offset text ⨟ pieces (text_scaled bytes) ⨟ pieces (constant (text_count bytes text % 65536))

    front_whole : IsWhole front
    front_whole = whole_behind (text_offset text ⨟ pieces (text_scaled bytes)) (constant (text_count bytes text % 65536)) (scaled_whole bytes text)
        (constant_closed (text_count bytes text % 65536))

pub text_perform : TextMovesPerform
text_perform z d k need number at bytes t a to text one small ra enough =
    moves_perform z d k need number at t a (text_moved bytes text) to (λ p s. moved_text text p s) ra (text_source z d k need bytes t text one small enough)
