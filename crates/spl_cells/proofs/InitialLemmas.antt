-- Initial values of simple items: they are pushed, and STOR, STB or STD puts them where the item stands.
use Rattle.std.proofs.Common.{◌≡◌, ℕ, suc, ◌+◌, ◌-◌, ◌*◌, ◌/◌, ◌%◌, ◌≤◌, ◌<◌, true, false, List, [], ◌∷◌, refl, sym, ap, subst, ◌∙◌, arith}
use Rattle.std.specs.Prelude.{Option, Some, is_some, ℤ}
use Rattle.std.proofs.lemmas.Bool.{false≢true}
use Rattle.spl_procedures.specs.hp_word.Words.{word_of, double_of}
use Rattle.spl_procedures.specs.hp_word.Bytes.{with_byte, high_word, low_word}
use Rattle.spl_procedures.proofs.hp_word_proofs.WordLaws.{word_of-below, double_of-below}
use Rattle.spl_procedures.specs.hp_instr.declared.instruction.Instr.TheVariants as instr
use Rattle.spl_procedures.specs.hp_session.State.{Machine}
use Rattle.spl_procedures.specs.hp_flat.Step.{at_left}
use Rattle.spl_procedures.specs.spl_tree.declared.expressions.Kind.{Kind}
use Rattle.spl_procedures.specs.spl_tree.declared.expressions.Kind.TheVariants as kind
use Rattle.spl_procedures.specs.spl_branch.declared.pieces.Piece.TheVariants.{Do}
use Rattle.spl_procedures.specs.spl_meaning.Kinds.{width}
use Rattle.spl_procedures.specs.spl_meaning.Operations.{kept}
use Rattle.spl_procedures.specs.spl_meaning.Places.{Place, Initial, put, stored, word_or_zero, put_byte, put_value, put_values, put_initials}
use Rattle.spl_procedures.specs.spl_meaning.References.{Setting, address_of, variable_located, placed_word, word_at, word_stored, store_by, store}
use Rattle.spl_procedures.specs.spl_meaning.Bodies.{Body}
use Rattle.spl_procedures.specs.spl_meaning.States.{State, Outcome, done, then_go}
use Rattle.spl_procedures.specs.spl_code.Constants.{constant}
use Rattle.spl_procedures.specs.spl_code.Operands.{mode_of}
use Rattle.spl_procedures.specs.spl_body_code.Cells.{value_pushed, first_set, initial_set, initials_set}
use Rattle.spl_procedures.specs.spl_follow.Spots.{Spot, pos, on, Ground}
use Rattle.spl_procedures.specs.spl_follow.Following.{Rate, tally, Follows, NoExit}
use Rattle.spl_procedures.specs.spl_follow.Standing.{Sites, Stands}
use Rattle.spl_procedures.specs.spl_follow.Parts.{Completes}
use Rattle.spl_procedures.proofs.spl_follow_proofs.PartLemmas.{stand_from_place}
use Rattle.spl_procedures.proofs.spl_values_proofs.GiveLemmas.{last_leads}
use Rattle.spl_procedures.proofs.spl_values_proofs.VariableLemmas.{both}
use Rattle.spl_addresses.proofs.spl_operands_proofs.OperandLemmas.{place_based}
use Rattle.spl_addresses.proofs.spl_operands_proofs.StoreLemmas.{storing}
use Rattle.spl_addresses.proofs.spl_variables_proofs.OwnLemmas.{place_low, own_finds}
use Rattle.spl_doubles.proofs.DoubleLemmas as doubles
use Rattle.spl_doubles.proofs.StoreLemmas.{double_put, value_storing}
use Rattle.spl_procedures.specs.Procedures.{procedure_setting}
use Rattle.spl_procedures.proofs.ClearLemmas.{clear_value, clear_initial}
use Rattle.spl_cells.specs.Settable.{is_local, values_settable, initials_settable}
use Rattle.spl_cells.proofs.PutLemmas.{value_keeps, there, read_there, put_is, stored_other, stores_swap, addresses as places_in, addresses_same}
use Rattle.spl_cells.proofs.StepLemmas.{none_follow, around, Fresh, fresh_ready, fresh_on, Stepped, steps_join, with_words, value_then, Local, local_is}
use Rattle.spl_cells.proofs.CellLemmas.{constant_pushed, value_put, word_is_stored, local_there}

-- ---- what the run puts

module _ (s : State) where
  -- the state with other data words
  abbrev with_mem : (ℕ → Option ℕ) → Outcome (Unit {0})
  with_mem mem = done tt (record s { now = record s.now { mem = mem } })

  -- a byte in the left half of a word that is there
  pub byte_is_stored : (a : ℕ) (v : ℤ) → a < s.now.stack → is_some (s.now.mem a) ≡ true
      → store_by kind.Byte false (2 * a) (word_of v % 256 % 256 ∷ []) s ≡ with_mem (put_value kind.Byte a 0 v s.now.mem)
  byte_is_stored a v low is =
      let old = there (s.now.mem a) is in
      let half : 2 * a / 2 ≡ a = omega arith in
      let whole : 2 * a ≡ 2 * a + 0 = omega arith in
      let once : word_of v % 256 % 256 % 256 ≡ word_of v % 256 = omega arith in
      let at : s.now.mem (2 * a / 2) ≡ Some old.0 = ap s.now.mem half ∙ old.1 in
      read_there (2 * a / 2) old.0 s (λ w s1. done tt (placed_word false (2 * a / 2) (with_byte (2 * a) (word_of v % 256 % 256 % 256) w) s1))
      (omega (arith, low, half)) at
      ∙ ap with_mem (put_is (2 * a / 2) (with_byte (2 * a) (word_of v % 256 % 256 % 256) old.0) old.0 s.now.mem at)
      ∙ ap (λ (i : ℕ). with_mem (stored (2 * a / 2) (with_byte (2 * a) i old.0) s.now.mem)) once
      ∙ ap (λ (i : ℕ). with_mem (stored (2 * a / 2) (with_byte (2 * a) (word_of v % 256) i) s.now.mem)) (sym (ap word_or_zero at))
      ∙ ap (λ (i : ℕ). with_mem (put_byte i (word_of v % 256) s.now.mem)) whole

  -- both words of a double
  pub double_is_stored : (a : ℕ) (v : ℤ) → a + 1 < s.now.stack → s.now.stack ≤ 32000 → is_some (s.now.mem a) ≡ true → is_some (s.now.mem (a + 1)) ≡ true
      → store_by kind.Double false a (high_word (double_of v) ∷ low_word (double_of v) ∷ []) s ≡ with_mem (put_value kind.Double a 0 v s.now.mem)
  double_is_stored a v low least is next =
      let h : ℕ = high_word (double_of v) in
      let l : ℕ = low_word (double_of v) in
      let old = there (s.now.mem a) is in
      let older = there (s.now.mem (a + 1)) next in
      let c : ℕ = (a + 1) % 65536 in
      let same : c ≡ a + 1 = omega (arith, low, least) in
      let at : s.now.mem c ≡ Some older.0 = ap s.now.mem same ∙ older.1 in
      let differs : a ≡ c → ⊥ = λ e. omega (arith, e, same) in
      let first : a ≡ a + 2 * 0 = omega arith in
      let second : c ≡ a + 2 * 0 + 1 = omega (arith, same) in
      read_there a old.0 s (λ _ s1. then_go (word_at false c s1) (λ _ s2. done tt (placed_word false c l (placed_word false a h s2)))) (omega (arith, low))
      old.1
      ∙ read_there c older.0 s (λ _ s2. done tt (placed_word false c l (placed_word false a h s2))) (omega (arith, low, same)) at
      ∙ ap (λ (mem : ℕ → Option ℕ). with_mem (put c l mem)) (put_is a h old.0 s.now.mem old.1)
      ∙ ap with_mem (put_is c l older.0 (stored a h s.now.mem) (stored_other a h s.now.mem c differs ∙ at))
      ∙ ap with_mem (stores_swap a c h l s.now.mem differs)
      ∙ ap (λ (i : ℕ). with_mem (stored i h (stored c l s.now.mem))) first
      ∙ ap (λ (i : ℕ). with_mem (stored (a + 2 * 0) h (stored i l s.now.mem))) second

-- ---- initial values

module _ (g : Ground) (w : Rate) (sites : Sites) (b : Body) where
  abbrev st : Setting
  st = procedure_setting false b.profile

  -- a value of one word, whose store leaves these data words
  single_follows : (k : Kind) (c : ℕ) (from : Place) (mem : ℕ → Option ℕ) (p r q : Spot) (s : State) (m : Machine) → width k ≡ 1 → c < 65536
      → Local b 1 from s.now → pos p ≤ pos r → pos r ≤ pos q → Stands g sites (on p) (constant c) r
      → Stands g sites (on r) (Do (storing k false false (mode_of 0 from)) ∷ []) q → Fresh g w sites b p s m
      → store (variable_located k (address_of from s.now)) (kept k (c ∷ [])) s ≡ done tt (with_words g w sites b s mem) → Stepped g w sites b p q mem s m
  single_follows k c from mem p r q s m one small local before after pushes puts f is =
      value_then g w sites b p r q 1 (c ∷ []) mem s m before after
      (constant_pushed g w sites b s.left p r 0 8 c s m small (omega arith) pushes (fresh_ready g w sites b p s m f))
      (λ m1 x. subst (λ (o : Outcome (Unit {0})). Follows g w (pos q - pos r) 0 w.reach (tally s) m1 (Completes st q 0 s.now m) NoExit o) is
      (value_put g w sites b k r q from c s m m1 one local (last_leads g sites (on r) (storing k false false (mode_of 0 from)) q puts) x f.room))

  -- a value, by its kind
  value_follows : (k : Kind) (from : Place) (v : ℤ) → is_local b.words (width k) from ≡ true → (p q : Spot) (s : State) (m : Machine)
      → Stands g sites (on p) (first_set from k (v ∷ [])) q → Fresh g w sites b p s m
      → Stepped g w sites b p q (put_value k (address_of from s.now) 0 v s.now.mem) s m
  value_follows kind.Integer from v e p q s m stands f =
      let cut = stand_from_place g sites (value_pushed kind.Integer v) (Do (storing kind.Integer false false (mode_of 0 from)) ∷ []) p q
      (clear_value kind.Integer v) stands in
      let local = local_is b 1 from s.now e f.locals in
      let is = local_there g w sites b 1 0 from p s m local (omega arith) f in
      let none : address_of from s.now + 0 ≡ address_of from s.now = omega arith in
      single_follows kind.Integer (word_of v) from (put_value kind.Integer (address_of from s.now) 0 v s.now.mem) p cut.0 q s m refl (word_of-below v) local
      cut.3 cut.4 cut.1 cut.2 f
      (ap (λ (i : ℕ). word_stored false i (word_of v ∷ []) s) (sym none) ∙ word_is_stored g w sites b (address_of from s.now + 0) (word_of v) s is.0 is.1)
  value_follows kind.Logical from v e p q s m stands f =
      let cut = stand_from_place g sites (value_pushed kind.Logical v) (Do (storing kind.Logical false false (mode_of 0 from)) ∷ []) p q
      (clear_value kind.Logical v) stands in
      let local = local_is b 1 from s.now e f.locals in
      let is = local_there g w sites b 1 0 from p s m local (omega arith) f in
      let none : address_of from s.now + 0 ≡ address_of from s.now = omega arith in
      single_follows kind.Logical (word_of v) from (put_value kind.Logical (address_of from s.now) 0 v s.now.mem) p cut.0 q s m refl (word_of-below v) local
      cut.3 cut.4 cut.1 cut.2 f
      (ap (λ (i : ℕ). word_stored false i (word_of v ∷ []) s) (sym none) ∙ word_is_stored g w sites b (address_of from s.now + 0) (word_of v) s is.0 is.1)
  value_follows kind.Byte from v e p q s m stands f =
      let cut = stand_from_place g sites (value_pushed kind.Byte v) (Do (storing kind.Byte false false (mode_of 0 from)) ∷ []) p q (clear_value kind.Byte v)
      stands in
      let local = local_is b 1 from s.now e f.locals in
      let is = local_there g w sites b 1 0 from p s m local (omega arith) f in
      let none : address_of from s.now + 0 ≡ address_of from s.now = omega arith in
      single_follows kind.Byte (word_of v % 256) from (put_value kind.Byte (address_of from s.now) 0 v s.now.mem) p cut.0 q s m refl (omega arith) local cut.3
      cut.4 cut.1 cut.2 f
      (byte_is_stored s (address_of from s.now) v (subst (λ (i : ℕ). i < s.now.stack) none is.0) (ap (λ (i : ℕ). is_some (s.now.mem i)) (sym none) ∙ is.1))
  value_follows kind.Double from v e p q s m stands f =
      let cut = stand_from_place g sites (value_pushed kind.Double v) (Do (storing kind.Double false false (mode_of 0 from)) ∷ []) p q
      (clear_value kind.Double v) stands in
      let local = local_is b 2 from s.now e f.locals in
      let first = local_there g w sites b 2 0 from p s m local (omega arith) f in
      let second = local_there g w sites b 2 1 from p s m local (omega arith) f in
      let none : address_of from s.now + 0 ≡ address_of from s.now = omega arith in
      let room = f.room in
      value_then g w sites b p cut.0 q 2 (high_word (double_of v) ∷ low_word (double_of v) ∷ []) (put_value kind.Double (address_of from s.now) 0 v s.now.mem)
      s m cut.3 cut.4
      ((doubles.constants_give (around g w sites b) s.left 0 8 (double_of v) (double_of-below v) (omega arith)).does 0 [] (on p) cut.0 s s.begun m cut.1
      (record { rest = []; is = refl })
      (fresh_ready g w sites b p s m f))
      (λ m1 x. subst (λ (o : Outcome (Unit {0})). Follows g w (pos q - pos cut.0) 0 w.reach (tally s) m1 (Completes st q 0 s.now m) NoExit o)
      (double_is_stored s (address_of from s.now) v second.0 f.matches.lies.least (ap (λ (i : ℕ). is_some (s.now.mem i)) (sym none) ∙ first.1) second.1)
      (double_put g w cut.0 q st (mode_of 0 from) false false false (address_of from s.now) 0 (high_word (double_of v)) (low_word (double_of v)) s.now m s m1
      (last_leads g sites (on cut.0) (instr.Memory 14 true false false (mode_of 0 from)) q cut.2)
      (value_storing st cut.0 0 (high_word (double_of v)) (low_word (double_of v)) s.now m s m1 x (omega (arith, room)))
      (own_finds kind.Double (mode_of 0 from) (address_of from s.now) (at_left m1) (place_based st s.now 0 2 from (at_left m1) local.reached x.matches)
      (place_low st s.now 0 2 from (at_left m1) local.reached x.matches))))

  -- values of an item, of which there is one at most
  initial_follows : (k : Kind) (from : Place) (vs : List ℤ) → values_settable b.words from k vs ≡ true → (p q : Spot) (s : State) (m : Machine)
      → Stands g sites (on p) (first_set from k vs) q → Fresh g w sites b p s m
      → Stepped g w sites b p q (put_values k (address_of from s.now) 0 vs s.now.mem) s m
  initial_follows k from [] e p q s m stands f = none_follow g w sites b p q s m stands f
  initial_follows k from (v ∷ []) e p q s m stands f = value_follows k from v e p q s m stands f
  initial_follows k from (v ∷ u ∷ vs) e p q s m stands f = absurd (false≢true e)

  -- they stay data words
  values_keep : (k : Kind) (a j : ℕ) (vs : List ℤ) (mem : ℕ → Option ℕ) (x : ℕ) → is_some (mem x) ≡ true → is_some (put_values k a j vs mem x) ≡ true
  values_keep k a j [] mem x h = h
  values_keep k a j (v ∷ vs) mem x h = values_keep k a (suc j) vs (put_value k a j v mem) x (value_keeps k a j v mem x h)

  -- all of them
  pub initials_follow : (is : List Initial) → initials_settable b.words is ≡ true → (p q : Spot) (s : State) (m : Machine)
      → Stands g sites (on p) (initials_set is) q → Fresh g w sites b p s m → Stepped g w sites b p q (put_initials (places_in s.now) is s.now.mem) s m
  initials_follow [] e p q s m stands f = none_follow g w sites b p q s m stands f
  initials_follow (i ∷ is) e p q s m stands f =
      let parts = both (values_settable b.words i.from i.kind i.values) (initials_settable b.words is) e in
      let cut = stand_from_place g sites (initial_set i) (initials_set is) p q (clear_initial i.from i.kind i.values) stands in
      let mem : ℕ → Option ℕ = put_values i.kind (address_of i.from s.now) 0 i.values s.now.mem in
      let one = initial_follows i.kind i.from i.values parts.0 p cut.0 s m cut.1 f in
      let later = initials_follow is parts.1 cut.0 q (with_words g w sites b s mem) one.0 cut.2
      (fresh_on g w sites b p cut.0 mem s m one f (λ x h. values_keep i.kind (address_of i.from s.now) 0 i.values s.now.mem x h)) in
      steps_join g w sites b p cut.0 q mem (put_initials (places_in s.now) is mem) s m cut.3 cut.4 one
      (subst (λ (address : Place → ℕ). Stepped g w sites b cut.0 q (put_initials address is mem) (with_words g w sites b s mem) one.0)
      (addresses_same s.now mem) later)
