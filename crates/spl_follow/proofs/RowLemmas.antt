-- From what a row of the machine does to what a part of the code promises: a value, a test, a store, a trap.
use Rattle.std.proofs.Common.{◌≡◌, ◌≢◌, ◌⊎◌, inl, inr, ℕ, zero, suc, ◌+◌, ◌-◌, ◌<◌, Bool, true, false, List, [], ◌∷◌, ◌++◌, length, refl, sym, ap, subst, ◌∙◌, arith}
use Rattle.std.specs.Prelude.{Option, Some, None, take, drop, slice_index, slice_set, nat_eq, nat_le, unwrap_or, ◌%◌, ◌==◌, Ok, Err, if◌then◌else◌}
use Rattle.std.proofs.Math.Seq.{drop-length}
use Rattle.std.proofs.lemmas.Bool.{eqb-true, eq-eqb, false≢true, le-leb}
use Rattle.std.proofs.lemmas.List.{append-nil}
use Rattle.std.proofs.lemmas.Option.{none-some}
use Rattle.std.proofs.Math.Logic.{⊎_elim}
use Rattle.std.proofs.Math.Nat.{mod-lt}
use Rattle.hp_flat.specs.hp_word.declared.arithmetic.Code.{Code}
use Rattle.hp_flat.specs.hp_word.declared.endings.Ending.TheVariants.{Running, Trapped}
use Rattle.hp_flat.specs.hp_word.declared.endings.Trap.{Trap}
use Rattle.hp_flat.specs.hp_word.declared.endings.Trap.TheVariants.{StackUnderflow}
use Rattle.hp_flat.specs.hp_instr.declared.instruction.Instr.TheVariants as i
use Rattle.hp_flat.specs.hp_session.State.{Machine, Outcome as Row, word, without, deleted}
use Rattle.hp_flat.specs.hp_word_rows.WordRows.{count_row}
use Rattle.hp_flat.specs.Step.{step, is_running, at_left, ended}
use Rattle.spl_code.specs.spl_tree.declared.names_and_places.At.{At}
use Rattle.spl_code.specs.spl_meaning.Operations.{is_odd}
use Rattle.spl_code.specs.spl_meaning.Places.{put}
use Rattle.spl_code.specs.spl_meaning.References.{Setting, placed_word}
use Rattle.spl_code.specs.spl_meaning.States.{Data, State, Begun, Exit, done, ends, spent, strays, trapped}
use Rattle.spl_frames.specs.Words.{AreWords}
use Rattle.spl_follow.specs.Spots.{Spot, spot, pos, landed, Point, on, Ground, start_at, Visit, visit_of, met, visits, as_print, print_between}
use Rattle.spl_follow.specs.Leading.{Leads}
use Rattle.spl_follow.specs.Matching.{Outer, outer, Matches, Matched, Kept, Stand, Shows, IsValue, Coded}
use Rattle.spl_follow.specs.Parts.{Completes, Tested}
use Rattle.spl_follow.specs.Following.{Logged, Owes, Behind, Rate, tally, tally_with, Goes, Follows, NoExit}
use Rattle.spl_follow.specs.Doing.{going, doing, turning}
use Rattle.spl_follow.specs.Yielding.{Becomes, Yields, Puts, PutsFar}
use Rattle.spl_follow.specs.Laws.{BranchesArrive}
use Rattle.spl_follow.proofs.StackLemmas.{replaced_length, beneath, stand_behind, stored_length, stored_word, stored_other}
use Rattle.spl_follow.proofs.KeepLemmas.{kept_top, matched_length, value_word}
use Rattle.spl_follow.proofs.WayLemmas.{goes_none, goes_wider, lead}

-- ---- prints

-- who has printed the same has printed nothing between
pub no_print : (m n : Machine) → n.printed ≡ m.printed → print_between m n ≡ []
no_print m n same =
    ap (λ (bs : List ℕ). as_print (drop (length m.printed) bs)) same ∙ ap (λ (bs : List ℕ). as_print bs) (drop-length m.printed)

-- ---- where the machine stands still

-- what is due where the machine stands is what the log lacks
pub behind_here : (g : Ground) (p : Point) (l : List Begun) (s : State) (m : Machine) → start_at g p.at ≡ p.due → spot m ≡ p.at → m.ending ≡ Running
    → Owes p.due l s m → Behind g l s m
behind_here g p l s m start at runs owes = by p.due (ap (λ (q : Spot). start_at g q) at ∙ start) owes where
  one : visits g 1 m ≡ visit_of (start_at g (spot m)) m
  one =
      ap (λ (b : Bool). if b then met g m ++ visits g 0 (step g.segments m) else []) (ap is_running runs) ∙ append-nil (met g m)

  by : (o : Option At) → start_at g (spot m) ≡ o → Owes o l s m → Behind g l s m
  by None is owes = inl owes
  by (Some at) is owes =
      inr (subst (λ (vs : List Visit). Logged l vs s.begun) (sym (one ∙ ap (λ (o : Option At). visit_of o m) is)) (owes.0, owes.1, owes.2))

-- the machine that matches has printed the same
pub shown : (st : Setting) (s : State) (m : Machine) (k : ℕ) → Matched st s.now m k → Shows Running s.now m
shown st s m k x = record { ending = ap (λ (u : Outer). u.ending) x.outer; printed = ap (λ (u : Outer). u.printed) x.outer }

-- a part that strays before its first instruction
pub stray_here : {A : Type 0} (g : Ground) (w : Rate) (c lag e : ℕ) (st : Setting) (p : Point) (k : ℕ) (s : State) (l : List Begun) (m : Machine)
    (P : A → State → Machine → Type 0) (J : Exit → State → Machine → Type 0) → start_at g p.at ≡ p.due → spot m ≡ p.at → Owes p.due l s m
    → Matched st s.now m k → Follows g w c lag e (tally_with l s) m P J (strays s)
stray_here g w c lag e st p k s l m P J start at owes x =
    let shows = shown st s m k x in
    (m, l, goes_none g w c lag (tally_with l s) m, shows, behind_here g p l s m start at shows.ending owes)

-- and one whose steps are spent there
pub spent_here : {A : Type 0} (g : Ground) (w : Rate) (c lag e : ℕ) (st : Setting) (p : Point) (k : ℕ) (s : State) (l : List Begun) (m : Machine)
    (P : A → State → Machine → Type 0) (J : Exit → State → Machine → Type 0) → start_at g p.at ≡ p.due → spot m ≡ p.at → Owes p.due l s m
    → Matched st s.now m k → s.left ≡ 0 → Follows g w c lag e (tally_with l s) m P J (spent s)
spent_here g w c lag e st p k s l m P J start at owes x none =
    let shows = shown st s m k x in
    (m, l, goes_none g w c lag (tally_with l s) m, shows, none, behind_here g p l s m start at shows.ending owes)

-- ---- rows

-- through a piece that goes on at a place, with nothing printed
pub becomes_goes : (g : Ground) (w : Rate) (p : Point) (r : Spot) (F : Machine → Machine) (st : Setting) (l : List Begun) (s : State) (m : Machine) (j : ℕ)
    (o : Row) (xs : List ℕ) (u : Outer) (b : Becomes xs u o) → Leads g p r F → F m ≡ going r o m → spot m ≡ p.at → Owes p.due l s m
    → Matched st s.now m j → u.printed ≡ m.printed
    → Goes g w (pos r - pos p.at) 0 w.reach (tally_with l s) m (tally s) (landed r b.left)
becomes_goes g w p r F st l s m j o xs u b leads is at owes x same =
    lead g w p r F l s m (landed r b.left) leads at (shown st s m j x).ending owes (is ∙ ap (λ (o : Row). going r o m) b.is)
    (no_print m (landed r b.left) (ap (λ (u : Outer). u.printed) b.same ∙ same))

-- a trap ends the machine as it was
pub row_trap : {A : Type 0} (g : Ground) (w : Rate) (e : ℕ) (p : Point) (r : Spot) (F : Machine → Machine) (st : Setting) (l : List Begun) (s : State)
    (m : Machine) (j : ℕ) (o : Row) (t : Trap) (P : A → State → Machine → Type 0) (J : Exit → State → Machine → Type 0) → Leads g p r F
    → F m ≡ going r o m → spot m ≡ p.at → Owes p.due l s m → Matched st s.now m j → o ≡ Err t
    → Follows g w (pos r - pos p.at) 0 e (tally_with l s) m P J (ends (trapped t) s)
row_trap g w e p r F st l s m j o t P J leads is at owes x traps =
    let shows = shown st s m j x in
    let n : Machine = record m { ending = Trapped t } in
    let way = lead g w p r F l s m n leads at shows.ending owes (is ∙ ap (λ (o : Row). going r o m) traps) (no_print m n refl) in
    (n, goes_wider g w (pos r - pos p.at) 0 w.reach (pos r - pos p.at) 0 0 (tally_with l s) m (tally s) n way (omega arith) (omega arith), record { ending = refl; printed = shows.printed })

-- a machine that has become so matches what its stack and its rest do
pub becomes_matches : (st : Setting) (d : Data) (k : ℕ) (o : Row) (xs : List ℕ) (u : Outer) (b : Becomes xs u o) → Matches st d xs u k
    → Matched st d b.left k
becomes_matches st d k o xs u b x =
    subst (λ (v : Outer). Matches st d b.left.stack v k) (sym b.same) (subst (λ (ys : List ℕ). Matches st d ys u k) (sym b.words) x)

-- ---- values

-- what matches while words are on top matches with others in their place
pub yields_matched : (st : Setting) (d : Data) (m : Machine) (k n : ℕ) (ws : List ℕ) → Matched st d m (k + n)
    → Matches st d (take (length m.stack - n) m.stack ++ ws) (outer m) (k + length ws)
yields_matched st d m k n ws x =
    let long : length m.stack ≡ d.top + k + n = matched_length st d m k n d.top x refl in
    let whole : d.top + k + length ws ≡ d.top + (k + length ws) = omega arith in
    record {
      words = replaced_length m.stack ws n (d.top + k) long ∙ whole;
      lies = x.lies;
      low = x.low;
      holds = λ a v e. let low = x.low a v e in beneath m.stack ws n (d.top + k) a long (omega (arith, low)) ∙ x.holds a v e;
      of_words = x.of_words;
      outer = x.outer;
    }

-- and what is beneath them is kept
pub yields_kept : (b : ℕ) (d : Data) (xs : List ℕ) (e : Data) (ys ws : List ℕ) (n : ℕ) → Kept b d xs e ys → length ys ≡ b + n
    → Kept b d xs e (take (length ys - n) ys ++ ws)
yields_kept b d xs e ys ws n k long = record {
  footing = k.footing;
  none = k.none;
  word = λ a l h. beneath ys ws n b a long l ∙ k.word a l h;
}

-- A row that puts a value in place of the words on top: of a part that began with d0 and m0, while k words waited.
pub row_value : (g : Ground) (w : Rate) (p : Point) (r : Spot) (F : Machine → Machine) (st : Setting) (l : List Begun) (s : State) (m : Machine)
    (d0 : Data) (m0 : Machine) (k n width : ℕ) (ws : List ℕ) (o : Row) → Leads g p r F → F m ≡ going r o m → spot m ≡ p.at → Owes p.due l s m
    → Yields n ws m o → Matched st s.now m (k + n) → Kept (d0.top + k) d0 m0.stack s.now m.stack → s.code ≡ None → AreWords ws → length ws ≡ width
    → Follows g w (pos r - pos p.at) 0 w.reach (tally_with l s) m (IsValue st r width k d0 m0) NoExit (done ws s)
row_value g w p r F st l s m d0 m0 k n width ws o leads is at owes y x kept silent small wide =
    let top = kept_top (d0.top + k) d0 m0.stack s.now m.stack kept in
    let long : length m.stack ≡ d0.top + k + n = matched_length st s.now m k n d0.top x top in
    let matches : Matches st s.now (take (length m.stack - n) m.stack ++ ws) (outer m) (k + width) =
    subst (λ (i : ℕ). Matches st s.now (take (length m.stack - n) m.stack ++ ws) (outer m) (k + i)) wide (yields_matched st s.now m k n ws x) in (
      landed r y.left,
      becomes_goes g w p r F st l s m (k + n) o (take (length m.stack - n) m.stack ++ ws) (outer m) y leads is at owes x refl,
      record {
        at = refl;
        wide = wide;
        matches = becomes_matches st s.now (k + width) o (take (length m.stack - n) m.stack ++ ws) (outer m) y matches;
        stand = subst (λ (xs : List ℕ). Stand xs (d0.top + k) ws) (sym y.words) (stand_behind m.stack ws n (d0.top + k) long);
        small = small;
        kept = subst (λ (xs : List ℕ). Kept (d0.top + k) d0 m0.stack s.now xs) (sym y.words)
            (yields_kept (d0.top + k) d0 m0.stack s.now m.stack ws n kept long);
        silent = silent;
      },
    )

-- ---- statements

-- a row that deletes n words: of a part that began with d0 and m0, while k words waited
pub row_drops : (g : Ground) (w : Rate) (p : Point) (r : Spot) (F : Machine → Machine) (st : Setting) (l : List Begun) (s : State) (m : Machine)
    (d0 : Data) (m0 : Machine) (k n : ℕ) (o : Row) (y : Yields n [] m o) → Leads g p r F → F m ≡ going r o m → spot m ≡ p.at → Owes p.due l s m
    → Matched st s.now m (k + n) → Kept (d0.top + k) d0 m0.stack s.now m.stack → Coded s.code y.left.regs.code
    → Follows g w (pos r - pos p.at) 0 w.reach (tally_with l s) m (Completes st r k d0 m0) NoExit (done tt s)
row_drops g w p r F st l s m d0 m0 k n o y leads is at owes x kept coded =
    let top = kept_top (d0.top + k) d0 m0.stack s.now m.stack kept in
    let long : length m.stack ≡ d0.top + k + n = matched_length st s.now m k n d0.top x top in
    let none : k + 0 ≡ k = omega arith in
    let matches : Matches st s.now (take (length m.stack - n) m.stack ++ []) (outer m) k =
    subst (λ (i : ℕ). Matches st s.now (take (length m.stack - n) m.stack ++ []) (outer m) i) none (yields_matched st s.now m k n [] x) in (
      landed r y.left,
      becomes_goes g w p r F st l s m (k + n) o (take (length m.stack - n) m.stack ++ []) (outer m) y leads is at owes x refl,
      record {
        at = refl;
        matches = becomes_matches st s.now k o (take (length m.stack - n) m.stack ++ []) (outer m) y matches;
        kept = subst (λ (xs : List ℕ). Kept (d0.top + k) d0 m0.stack s.now xs) (sym y.words)
            (yields_kept (d0.top + k) d0 m0.stack s.now m.stack [] n kept long);
        coded = coded;
      },
    )

-- ---- stores

-- a word that is put: at its address it is that one, and at each other the one before
pub put_cases : (mem : ℕ → Option ℕ) (a v b x : ℕ) → put a v mem b ≡ Some x → ((b ≡ a) × (x ≡ v)) ⊎ ((b ≢ a) × (mem b ≡ Some x))
put_cases mem a v b x e = by (nat_eq a b) refl e where
  by : (t : Bool) → nat_eq a b ≡ t → (if t then Some v else mem b) ≡ Some x → ((b ≡ a) × (x ≡ v)) ⊎ ((b ≢ a) × (mem b ≡ Some x))
  by true t e = inl (sym (eqb-true a b t), sym (ap (λ (o : Option ℕ). unwrap_or o 0) e))
  by false t e = inr (λ same. false≢true (sym t ∙ eq-eqb a b (sym same)), e)

-- what is no data word is none then either, where the address is that of one
pub put_none : (mem : ℕ → Option ℕ) (a v old b : ℕ) → mem a ≡ Some old → mem b ≡ None → put a v mem b ≡ None
put_none mem a v old b there none = by (nat_eq a b) refl where
  by : (t : Bool) → nat_eq a b ≡ t → (if t then Some v else mem b) ≡ None
  by true t = absurd (none-some old (sym none ∙ ap mem (sym (eqb-true a b t)) ∙ there))
  by false t = none

-- A row that stores a word in a data word, and deletes n words: of a part that began with d0 and m0, while k words waited.
pub row_stores : (g : Ground) (w : Rate) (p : Point) (r : Spot) (F : Machine → Machine) (st : Setting) (l : List Begun) (s : State) (m : Machine)
    (d0 : Data) (m0 : Machine) (k n a v old : ℕ) (o : Row) → Leads g p r F → F m ≡ going r o m → spot m ≡ p.at → Owes p.due l s m → Puts n a v m o
    → s.now.mem a ≡ Some old → v < 65536 → Matched st s.now m (k + n) → Kept (d0.top + k) d0 m0.stack s.now m.stack → Coded s.code m.regs.code
    → Follows g w (pos r - pos p.at) 0 w.reach (tally_with l s) m (Completes st r k d0 m0) NoExit (done tt (placed_word false a v s))
row_stores g w p r F st l s m d0 m0 k n a v old o leads is at owes y there small x kept coded =
    let top = kept_top (d0.top + k) d0 m0.stack s.now m.stack kept in
    let long : length m.stack ≡ d0.top + k + n = matched_length st s.now m k n d0.top x top in
    let below : a < s.now.top = x.low a old there in
    let xs : List ℕ = take (length m.stack - n) (slice_set m.stack a v) in
    let t : State = placed_word false a v s in
    let matches : Matches st t.now xs (outer m) k = record {
      words = stored_length m.stack n (d0.top + k) a v long ∙ ap (λ (i : ℕ). i + k) (sym top);
      lies = x.lies;
      low = λ b z e. ⊎_elim (λ i. subst (λ (i : ℕ). i < s.now.top) (sym i.0) below) (λ i. x.low b z i.1) (put_cases s.now.mem a v b z e);
      holds = λ b z e. ⊎_elim
          (λ i. ap (λ (c : ℕ). slice_index xs c) i.0 ∙ stored_word m.stack n (d0.top + k) a v long (omega (arith, below, top)) ∙ sym i.1)
          (λ i. let low = x.low b z i.1 in stored_other m.stack n (d0.top + k) a v b long (omega (arith, low, top)) i.0 ∙ x.holds b z i.1)
          (put_cases s.now.mem a v b z e);
      of_words = record {
        stack = λ b z e. ⊎_elim (λ i. subst (λ (i : ℕ). i < 65536) (sym i.1) small) (λ i. x.of_words.stack b z i.1) (put_cases s.now.mem a v b z e);
        extra = x.of_words.extra;
        lines = x.of_words.lines;
      };
      outer = x.outer;
    } in (
      landed r y.stores.left,
      becomes_goes g w p r F st l s m (k + n) o xs (outer m) y.stores leads is at owes x refl,
      record {
        at = refl;
        matches = becomes_matches st t.now k o xs (outer m) y.stores matches;
        kept = subst (λ (ys : List ℕ). Kept (d0.top + k) d0 m0.stack t.now ys) (sym y.stores.words) (record {
          footing = kept.footing;
          none = λ b h. put_none s.now.mem a v old b there (kept.none b h);
          word = λ b low h.
              stored_other m.stack n (d0.top + k) a v b long low (λ same. none-some old (sym (kept.none b h) ∙ ap s.now.mem same ∙ there)) ∙ kept.word b low h;
        });
        coded = subst (λ (c : Code). Coded s.code c) (sym y.same_code) coded;
      },
    )

-- a list of words with another word in it
small_set : (xs : List ℕ) (a v : ℕ) → AreWords xs → v < 65536 → AreWords (slice_set xs a v)
small_set [] a v h l = tt
small_set (x ∷ xs) zero v h l = (l, h.1)
small_set (x ∷ xs) (suc a) v h l = (h.0, small_set xs a v h.1 l)

-- what matches while n words are on top matches without them
drops_matched : (st : Setting) (d : Data) (m : Machine) (k n : ℕ) → Matched st d m (k + n)
    → Matches st d (take (length m.stack - n) m.stack) (outer m) k
drops_matched st d m k n x =
    let none : k + 0 ≡ k = omega arith in
    subst (λ (xs : List ℕ). Matches st d xs (outer m) k) (append-nil (take (length m.stack - n) m.stack))
    (subst (λ (i : ℕ). Matches st d (take (length m.stack - n) m.stack ++ []) (outer m) i) none (yields_matched st d m k n [] x))

-- The same of a word of the extra segment.
pub row_stores_far : (g : Ground) (w : Rate) (p : Point) (r : Spot) (F : Machine → Machine) (st : Setting) (l : List Begun) (s : State) (m : Machine)
    (d0 : Data) (m0 : Machine) (k n a v : ℕ) (o : Row) → Leads g p r F → F m ≡ going r o m → spot m ≡ p.at → Owes p.due l s m → PutsFar n a v m o
    → v < 65536 → Matched st s.now m (k + n) → Kept (d0.top + k) d0 m0.stack s.now m.stack → Coded s.code m.regs.code
    → Follows g w (pos r - pos p.at) 0 w.reach (tally_with l s) m (Completes st r k d0 m0) NoExit (done tt (placed_word true a v s))
row_stores_far g w p r F st l s m d0 m0 k n a v o leads is at owes y small x kept coded =
    let top = kept_top (d0.top + k) d0 m0.stack s.now m.stack kept in
    let long : length m.stack ≡ d0.top + k + n = matched_length st s.now m k n d0.top x top in
    let xs : List ℕ = take (length m.stack - n) m.stack in
    let u : Outer = record (outer m) { extra = slice_set m.extra a v } in
    let t : State = placed_word true a v s in
    let before = drops_matched st s.now m k n x in
    let there : Kept (d0.top + k) d0 m0.stack s.now xs =
    subst (λ (ys : List ℕ). Kept (d0.top + k) d0 m0.stack s.now ys) (append-nil xs)
    (yields_kept (d0.top + k) d0 m0.stack s.now m.stack [] n kept long) in
    let matches : Matches st t.now xs u k = record {
      words = before.words;
      lies = before.lies;
      low = before.low;
      holds = before.holds;
      of_words = record {
        stack = x.of_words.stack;
        extra = small_set s.now.extra a v x.of_words.extra small;
        lines = x.of_words.lines;
      };
      outer = ap (λ (z : Outer). record z { extra = slice_set z.extra a v }) x.outer;
    } in (
      landed r y.stores.left,
      becomes_goes g w p r F st l s m (k + n) o xs u y.stores leads is at owes x refl,
      record {
        at = refl;
        matches = becomes_matches st t.now k o xs u y.stores matches;
        kept = subst (λ (ys : List ℕ). Kept (d0.top + k) d0 m0.stack t.now ys) (sym y.stores.words)
            (record { footing = there.footing; none = there.none; word = there.word });
        coded = subst (λ (c : Code). Coded s.code c) (sym y.same_code) coded;
      },
    )

-- ---- tests

-- who goes one way at an even word goes the other way at an odd one
either_way : (v : ℕ) (to r : Spot) → (if v % 2 == 0 then to else r) ≡ (if is_odd v then r else to)
either_way v to r = by (v % 2) (mod-lt v (omega arith)) where
  by : (i : ℕ) → i < 2 → (if i == 0 then to else r) ≡ (if i == 1 then r else to)
  by zero l = refl
  by (suc zero) l = refl
  by (suc (suc i)) l = absurd (omega (arith, l))

-- BRE behind a value: it is deleted, and where its lowest bit is 0 the test leads to the mark.
pub row_tests : (g : Ground) (w : Rate) (p r to : Spot) (back : Bool) (d : ℕ) (st : Setting) (s : State) (m : Machine) (d0 : Data) (m0 : Machine)
    (k n : ℕ) (vs : List ℕ) → Leads g (on p) r (turning (i.Short 0o16 back d) to r) → IsValue st p n k d0 m0 vs s m
    → Follows g w (pos r - pos p) 0 w.reach (tally s) m (Tested st r to k d0 m0) NoExit (done vs s)
row_tests g w p r to back d st s m d0 m0 k n vs leads v = (after, way, tested vs refl) where
  turn : Spot
  turn = if word 0 m % 2 == 0 then to else r

  after : Machine
  after = landed turn (without 1 (at_left m))

  long : nat_le 1 (length m.stack) ≡ true
  long = let live = v.matches.lies.live in let words = v.matches.words in le-leb 1 (length m.stack) (omega (arith, live, words))

  is : turning (i.Short 0o16 back d) to r m ≡ after
  is = ap (λ (b : Bool). ended m (if b then Ok after else Err StackUnderflow)) long

  shows : Shows Running s.now m
  shows = shown st s m (k + n) v.matches

  way : Goes g w (pos r - pos p) 0 w.reach (tally s) m (tally s) after
  way = lead g w (on p) r (turning (i.Short 0o16 back d) to r) s.begun s m after leads v.at shows.ending refl is (no_print m after refl)

  tested : (us : List ℕ) → us ≡ vs → Tested st r to k d0 m0 us s after
  tested [] e = record { ending = shows.ending; printed = shows.printed }
  tested (u ∷ []) e =
      let one : n ≡ 1 = sym v.wide ∙ ap (λ (ws : List ℕ). length ws) (sym e) in
      let x = subst (λ (i : ℕ). Matched st s.now m (k + i)) one v.matches in
      let top = kept_top (d0.top + k) d0 m0.stack s.now m.stack v.kept in
      let count : 0 + 0 + 1 ≡ n = sym one in
      let same : word 0 m ≡ u = value_word st p n k 0 0 d0 m0 vs s m v count ∙ ap (λ (ws : List ℕ). slice_index ws 0) (sym e) in
      let none : k + 0 ≡ k = omega arith in
      let left : take (length m.stack - 1) m.stack ++ [] ≡ take (length m.stack - 1) m.stack = append-nil (take (length m.stack - 1) m.stack) in (
        record {
          at = ap (λ (w : ℕ). if w % 2 == 0 then to else r) same ∙ either_way u to r;
          matches = subst (λ (xs : List ℕ). Matches st s.now xs (outer m) k) left
              (subst (λ (i : ℕ). Matches st s.now (take (length m.stack - 1) m.stack ++ []) (outer m) i) none (yields_matched st s.now m k 1 [] x));
          kept = subst (λ (xs : List ℕ). Kept (d0.top + k) d0 m0.stack s.now xs) left
              (yields_kept (d0.top + k) d0 m0.stack s.now m.stack [] 1 v.kept (matched_length st s.now m k 1 d0.top x top));
          coded = subst (λ (c : Option Code). Coded c m.regs.code) (sym v.silent) tt;
        },
        v.silent,
      )
  tested (u ∷ x ∷ xs) e = record { ending = shows.ending; printed = shows.printed }

-- ---- branches

-- BR changes the place alone
pub row_branches : BranchesArrive
row_branches g w p r to back d st s m d0 m0 k leads x =
    let shows = shown st s m k x.matches in (
      landed to m,
      lead g w (on p) r (turning (i.Branch false back d) to r) s.begun s m (landed to m) leads x.at shows.ending refl refl (no_print m (landed to m) refl),
      record { at = refl; matches = x.matches; kept = x.kept; coded = x.coded },
    )

-- ---- what does nothing

-- no word is deleted
idle : (m : Machine) → Yields 0 [] m (deleted 0 (at_left m))
unfolding deleted
idle m = record {
  left = without 0 (at_left m);
  is = ap (λ (b : Bool). if b then Ok (without 0 (at_left m)) else Err StackUnderflow) (le-leb 0 (length m.stack) (omega arith));
  words = sym (append-nil (take (length m.stack - 0) m.stack));
  same = refl;
}

-- what SUBS 0 does
idles : (segments : List (List ℕ)) (r : Spot) (m : Machine) → doing segments (i.Control 8 0) r m ≡ going r (deleted 0 (at_left m)) m
unfolding count_row
idles segments r m = refl

-- SUBS 0 is the word of a statement that does nothing of its own.
pub row_idle : (g : Ground) (w : Rate) (p : Point) (r : Spot) (st : Setting) (l : List Begun) (s : State) (m : Machine) (d0 : Data) (m0 : Machine) (k : ℕ)
    → Leads g p r (doing g.segments (i.Control 8 0) r) → spot m ≡ p.at → Owes p.due l s m → Matched st s.now m k
    → Kept (d0.top + k) d0 m0.stack s.now m.stack → Coded s.code m.regs.code
    → Follows g w (pos r - pos p.at) 0 w.reach (tally_with l s) m (Completes st r k d0 m0) NoExit (done tt s)
unfolding idle
row_idle g w p r st l s m d0 m0 k leads at owes x kept coded =
    let none : k ≡ k + 0 = omega arith in
    row_drops g w p r (doing g.segments (i.Control 8 0) r) st l s m d0 m0 k 0 (deleted 0 (at_left m)) (idle m) leads (idles g.segments r m) at owes
    (subst (λ (i : ℕ). Matched st s.now m i) none x) kept coded
