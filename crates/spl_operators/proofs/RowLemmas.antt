-- Rows behind a value: words in place of its words, one row after another.
use Rattle.std.proofs.Common.{◌≡◌, ℕ, zero, suc, ◌+◌, ◌-◌, ◌<◌, ◌≤◌, List, [], ◌∷◌, ◌++◌, length, take, refl, ap, subst, ◌∙◌, arith}
use Rattle.std.specs.Prelude.{slice_index}
use Rattle.std.proofs.lemmas.List.{append_assoc}
use Rattle.spl_conditions.specs.hp_instr.declared.instruction.Instr.TheVariants as i
use Rattle.spl_conditions.specs.hp_instr.Instructions.{op}
use Rattle.spl_conditions.specs.hp_session.State.{Machine, Outcome as Row, word}
use Rattle.spl_conditions.specs.hp_stack_rows.StackRows.{operated}
use Rattle.spl_conditions.proofs.hp_yields_proofs.StackYields as rows
use Rattle.spl_conditions.specs.spl_meaning.References.{Setting}
use Rattle.spl_conditions.specs.spl_meaning.States.{Data, State, Outcome, done}
use Rattle.spl_conditions.specs.spl_frames.Words.{AreWords}
use Rattle.spl_conditions.specs.spl_follow.Spots.{Spot, pos, on, Ground}
use Rattle.spl_conditions.specs.spl_follow.Leading.{Leads}
use Rattle.spl_conditions.specs.spl_follow.Matching.{Outer, IsValue}
use Rattle.spl_conditions.specs.spl_follow.Following.{Rate, tally, Follows, NoExit}
use Rattle.spl_conditions.specs.spl_follow.Doing.{going, doing}
use Rattle.spl_conditions.specs.spl_follow.Yielding.{Yields}
use Rattle.spl_conditions.proofs.spl_follow_proofs.FollowLemmas.{then_follows}
use Rattle.spl_conditions.proofs.spl_follow_proofs.KeepLemmas.{kept_top, kept_stack, value_word}
use Rattle.spl_conditions.proofs.spl_follow_proofs.RowLemmas.{row_value}

-- ---- one row

-- a row that puts words in place of a value's
pub words_row : (g : Ground) (w : Rate) (p r : Spot) (F : Machine → Machine) (st : Setting) (s : State) (m : Machine) (d0 : Data) (m0 : Machine)
    (k n width : ℕ) (vs ws : List ℕ) (o : Row) → Leads g (on p) r F → F m ≡ going r o m → IsValue st p n k d0 m0 vs s m → Yields n ws m o → AreWords ws
    → length ws ≡ width → Follows g w (pos r - pos p) 0 w.reach (tally s) m (IsValue st r width k d0 m0) NoExit (done ws s)
words_row g w p r F st s m d0 m0 k n width vs ws o leads is x y small wide =
    row_value g w (on p) r F st s.begun s m d0 m0 k n width ws o leads is x.at refl y x.matches x.kept x.silent small wide

-- a row, and then what stands behind it
pub row_then : (g : Ground) (w : Rate) (p r q : Spot) (st : Setting) (s : State) (m : Machine) (d0 : Data) (m0 : Machine) (k n : ℕ) (vs : List ℕ)
    (P : List ℕ → State → Machine → Type 0) (o : Outcome (List ℕ)) → pos p ≤ pos r → pos r ≤ pos q
    → Follows g w (pos r - pos p) 0 w.reach (tally s) m (IsValue st r n k d0 m0) NoExit (done vs s)
    → ((m1 : Machine) → IsValue st r n k d0 m0 vs s m1 → Follows g w (pos q - pos r) 0 w.reach (tally s) m1 P NoExit o)
    → Follows g w (pos q - pos p) 0 w.reach (tally s) m P NoExit o
row_then g w p r q st s m d0 m0 k n vs P o before behind f rest =
    then_follows g w (pos r - pos p) 0 w.reach (pos q - pos r) 0 w.reach (pos q - pos p) 0 w.reach (tally s) m (tally s) f.0 P NoExit o f.1 (rest f.0 f.2)
    (omega (arith, before, behind)) (omega arith) (omega arith)

-- behind a value there is room for one more word
pub value_room : (st : Setting) (p : Spot) (n k need : ℕ) (d : Data) (m : Machine) (vs : List ℕ) (s : State) (m1 : Machine) → IsValue st p n k d m vs s m1
    → d.top + k + need ≤ d.stack → n + 1 ≤ need → length m1.stack < m1.stack_limit
value_room st p n k need d m vs s m1 x room enough =
    let top = kept_top (d.top + k) d m.stack s.now m1.stack x.kept in
    let stack = kept_stack (d.top + k) d m.stack s.now m1.stack x.kept in
    let words = x.matches.words in
    let limit : m1.stack_limit ≡ s.now.stack = ap (λ (u : Outer). u.limit) x.matches.outer in
    omega (arith, top, stack, words, limit, room, enough)

-- the words of a value are on the stack
pub value_there : (st : Setting) (p : Spot) (n k : ℕ) (d : Data) (m : Machine) (vs : List ℕ) (s : State) (m1 : Machine) → IsValue st p n k d m vs s m1
    → n ≤ length m1.stack
value_there st p n k d m vs s m1 x = let words = x.matches.words in omega (arith, words)

-- ---- words beneath

-- one word more of a list
take_more : (xs : List ℕ) (j : ℕ) → j < length xs → take (suc j) xs ≡ take j xs ++ slice_index xs j ∷ []
take_more [] j l = absurd (omega (arith, l))
take_more (x ∷ xs) zero l = refl
take_more (x ∷ xs) (suc j) l = ap (λ (ys : List ℕ). x ∷ ys) (take_more xs j (omega (arith, l)))

-- A row that leaves the word beneath those that it takes takes that too, and puts it back.
pub yields_beneath : (n : ℕ) (ws : List ℕ) (m : Machine) (o : Row) → n < length m.stack → Yields n ws m o → Yields (suc n) (word n m ∷ ws) m o
yields_beneath n ws m o there y =
    let xs = m.stack in
    let j = length xs - suc n in
    let next : length xs - n ≡ suc j = omega (arith, there) in
    let place : j ≡ length xs - 1 - n = omega (arith, there) in
    let low : j < length xs = omega (arith, there) in
    let same : take (length xs - n) xs ++ ws ≡ take j xs ++ (word n m ∷ ws) =
    ap (λ (h : ℕ). take h xs ++ ws) next ∙ ap (λ (ys : List ℕ). ys ++ ws) (take_more xs j low) ∙ append_assoc (take j xs) (slice_index xs j ∷ []) ws
    ∙ ap (λ (h : ℕ). take j xs ++ (slice_index xs h ∷ ws)) place in
    record { left = y.left; is = y.is; words = y.words ∙ same; same = y.same }

-- ---- rows that place words

-- DEL behind two words
pub upper_deleted : (g : Ground) (w : Rate) (p r : Spot) (st : Setting) (s : State) (m : Machine) (d0 : Data) (m0 : Machine) (k v u : ℕ)
    → Leads g (on p) r (doing g.segments (i.Pair (op 0o40) (op 0)) r) → IsValue st p 2 k d0 m0 (v ∷ u ∷ []) s m
    → Follows g w (pos r - pos p) 0 w.reach (tally s) m (IsValue st r 1 k d0 m0) NoExit (done (v ∷ []) s)
upper_deleted g w p r st s m d0 m0 k v u leads x =
    let there = value_there st p 2 k d0 m0 (v ∷ u ∷ []) s m x in
    words_row g w p r (doing g.segments (i.Pair (op 0o40) (op 0)) r) st s m d0 m0 k 2 1 (v ∷ u ∷ []) (v ∷ []) (operated 0o40 m) leads refl x
    (subst (λ (b : ℕ). Yields 2 (b ∷ []) m (operated 0o40 m)) (value_word st p 2 k 1 0 d0 m0 (v ∷ u ∷ []) s m x refl)
    (yields_beneath 1 [] m (operated 0o40 m) (omega (arith, there)) (rows.top_deleted m (omega (arith, there))).words))
    (x.small.0, tt) refl

-- DELB
pub lower_deleted : (g : Ground) (w : Rate) (p r : Spot) (st : Setting) (s : State) (m : Machine) (d0 : Data) (m0 : Machine) (k v u : ℕ)
    → Leads g (on p) r (doing g.segments (i.Pair (op 0o01) (op 0)) r) → IsValue st p 2 k d0 m0 (v ∷ u ∷ []) s m
    → Follows g w (pos r - pos p) 0 w.reach (tally s) m (IsValue st r 1 k d0 m0) NoExit (done (u ∷ []) s)
lower_deleted g w p r st s m d0 m0 k v u leads x =
    let there = value_there st p 2 k d0 m0 (v ∷ u ∷ []) s m x in
    words_row g w p r (doing g.segments (i.Pair (op 0o01) (op 0)) r) st s m d0 m0 k 2 1 (v ∷ u ∷ []) (u ∷ []) (operated 0o01 m) leads refl x
    (subst (λ (b : ℕ). Yields 2 (b ∷ []) m (operated 0o01 m)) (value_word st p 2 k 0 1 d0 m0 (v ∷ u ∷ []) s m x refl) (rows.lower_deleted m there).words)
    (x.small.1.0, tt) refl

-- ZERO behind one word, and behind two
pub zero_behind_one : (g : Ground) (w : Rate) (p r : Spot) (st : Setting) (s : State) (m : Machine) (d0 : Data) (m0 : Machine) (k need v : ℕ)
    → d0.top + k + need ≤ d0.stack → 2 ≤ need → Leads g (on p) r (doing g.segments (i.Pair (op 0o06) (op 0)) r) → IsValue st p 1 k d0 m0 (v ∷ []) s m
    → Follows g w (pos r - pos p) 0 w.reach (tally s) m (IsValue st r 2 k d0 m0) NoExit (done (v ∷ 0 ∷ []) s)
zero_behind_one g w p r st s m d0 m0 k need v room enough leads x =
    let there = value_there st p 1 k d0 m0 (v ∷ []) s m x in
    let free = value_room st p 1 k need d0 m0 (v ∷ []) s m x room enough in
    words_row g w p r (doing g.segments (i.Pair (op 0o06) (op 0)) r) st s m d0 m0 k 1 2 (v ∷ []) (v ∷ 0 ∷ []) (operated 0o06 m) leads refl x
    (subst (λ (b : ℕ). Yields 1 (b ∷ 0 ∷ []) m (operated 0o06 m)) (value_word st p 1 k 0 0 d0 m0 (v ∷ []) s m x refl)
    (yields_beneath 0 (0 ∷ []) m (operated 0o06 m) (omega (arith, there)) (rows.zero_pushed m free).words))
    (x.small.0, (omega arith, tt)) refl

pub zero_behind_two : (g : Ground) (w : Rate) (p r : Spot) (st : Setting) (s : State) (m : Machine) (d0 : Data) (m0 : Machine) (k need v u : ℕ)
    → d0.top + k + need ≤ d0.stack → 3 ≤ need → Leads g (on p) r (doing g.segments (i.Pair (op 0o06) (op 0)) r) → IsValue st p 2 k d0 m0 (v ∷ u ∷ []) s m
    → Follows g w (pos r - pos p) 0 w.reach (tally s) m (IsValue st r 3 k d0 m0) NoExit (done (v ∷ u ∷ 0 ∷ []) s)
zero_behind_two g w p r st s m d0 m0 k need v u room enough leads x =
    let there = value_there st p 2 k d0 m0 (v ∷ u ∷ []) s m x in
    let free = value_room st p 2 k need d0 m0 (v ∷ u ∷ []) s m x room enough in
    words_row g w p r (doing g.segments (i.Pair (op 0o06) (op 0)) r) st s m d0 m0 k 2 3 (v ∷ u ∷ []) (v ∷ u ∷ 0 ∷ []) (operated 0o06 m) leads refl x
    (subst (λ (b : ℕ). Yields 2 (b ∷ u ∷ 0 ∷ []) m (operated 0o06 m)) (value_word st p 2 k 1 0 d0 m0 (v ∷ u ∷ []) s m x refl)
    (subst (λ (b : ℕ). Yields 2 (word 1 m ∷ b ∷ 0 ∷ []) m (operated 0o06 m)) (value_word st p 2 k 0 1 d0 m0 (v ∷ u ∷ []) s m x refl)
    (yields_beneath 1 (word 0 m ∷ 0 ∷ []) m (operated 0o06 m) (omega (arith, there))
    (yields_beneath 0 (0 ∷ []) m (operated 0o06 m) (omega (arith, there)) (rows.zero_pushed m free).words))))
    (x.small.0, (x.small.1.0, (omega arith, tt))) refl

-- XCH
pub exchanged : (g : Ground) (w : Rate) (p r : Spot) (st : Setting) (s : State) (m : Machine) (d0 : Data) (m0 : Machine) (k v u : ℕ)
    → Leads g (on p) r (doing g.segments (i.Pair (op 0o32) (op 0)) r) → IsValue st p 2 k d0 m0 (v ∷ u ∷ []) s m
    → Follows g w (pos r - pos p) 0 w.reach (tally s) m (IsValue st r 2 k d0 m0) NoExit (done (u ∷ v ∷ []) s)
exchanged g w p r st s m d0 m0 k v u leads x =
    let there = value_there st p 2 k d0 m0 (v ∷ u ∷ []) s m x in
    words_row g w p r (doing g.segments (i.Pair (op 0o32) (op 0)) r) st s m d0 m0 k 2 2 (v ∷ u ∷ []) (u ∷ v ∷ []) (operated 0o32 m) leads refl x
    (subst (λ (b : ℕ). Yields 2 (b ∷ v ∷ []) m (operated 0o32 m)) (value_word st p 2 k 0 1 d0 m0 (v ∷ u ∷ []) s m x refl)
    (subst (λ (b : ℕ). Yields 2 (word 0 m ∷ b ∷ []) m (operated 0o32 m)) (value_word st p 2 k 1 0 d0 m0 (v ∷ u ∷ []) s m x refl)
    (rows.two_exchanged m there).words))
    (x.small.1.0, (x.small.0, tt)) refl

-- CAB
pub rotated : (g : Ground) (w : Rate) (p r : Spot) (st : Setting) (s : State) (m : Machine) (d0 : Data) (m0 : Machine) (k a b c : ℕ)
    → Leads g (on p) r (doing g.segments (i.Pair (op 0o56) (op 0)) r) → IsValue st p 3 k d0 m0 (a ∷ b ∷ c ∷ []) s m
    → Follows g w (pos r - pos p) 0 w.reach (tally s) m (IsValue st r 3 k d0 m0) NoExit (done (b ∷ c ∷ a ∷ []) s)
rotated g w p r st s m d0 m0 k a b c leads x =
    let there = value_there st p 3 k d0 m0 (a ∷ b ∷ c ∷ []) s m x in
    words_row g w p r (doing g.segments (i.Pair (op 0o56) (op 0)) r) st s m d0 m0 k 3 3 (a ∷ b ∷ c ∷ []) (b ∷ c ∷ a ∷ []) (operated 0o56 m) leads refl x
    (subst (λ (y : ℕ). Yields 3 (y ∷ c ∷ a ∷ []) m (operated 0o56 m)) (value_word st p 3 k 1 1 d0 m0 (a ∷ b ∷ c ∷ []) s m x refl)
    (subst (λ (y : ℕ). Yields 3 (word 1 m ∷ y ∷ a ∷ []) m (operated 0o56 m)) (value_word st p 3 k 0 2 d0 m0 (a ∷ b ∷ c ∷ []) s m x refl)
    (subst (λ (y : ℕ). Yields 3 (word 1 m ∷ word 0 m ∷ y ∷ []) m (operated 0o56 m)) (value_word st p 3 k 2 0 d0 m0 (a ∷ b ∷ c ∷ []) s m x refl)
    (rows.three_rotated m there).words)))
    (x.small.1.0, (x.small.1.1.0, (x.small.0, tt))) refl
