-- The words of the parts of a statement.
use Rattle.std.proofs.Common.{◌≡◌, ◌≤◌, ℕ, ◌+◌, ◌-◌, ◌%◌, nat_le, Bool, true, false, if◌then◌else◌, List, [], ◌∷◌, length, map, Option, Some, None, refl, arith}
use Rattle.std.proofs.lemmas.Bool.{le-leb, false≢true}
use Rattle.spl_code.specs.hp_instr.declared.instruction.Mode.{Mode}
use Rattle.spl_code.specs.spl_tree.declared.names_and_places.At.{At}
use Rattle.spl_code.specs.spl_tree.declared.expressions.Kind.{Kind}
use Rattle.spl_code.specs.spl_tree.declared.expressions.Kind.TheVariants as kind
use Rattle.spl_code.specs.spl_tree.Trees as tree
use Rattle.spl_code.specs.spl_tree.Trees.{Tree, Trees}
use Rattle.spl_code.specs.spl_tree.StatementTrees as stat
use Rattle.spl_code.specs.spl_tree.StatementTrees.{Target, Source, Effect, Test}
use Rattle.spl_code.specs.spl_meaning.Names.{Profile}
use Rattle.spl_code.specs.spl_meaning.Kinds.{callable}
use Rattle.spl_code.specs.spl_meaning.Pending.{waiting, behind_first, behind_second, result_words}
use Rattle.spl_code.specs.spl_meaning.Places as p
use Rattle.spl_code.specs.spl_meaning.References.{Access, its_own, by_address, by_cell, its_result, nowhere, access_of}
use Rattle.spl_code.specs.spl_meaning.Values.{sense_of, small_constant}
use Rattle.spl_code.specs.spl_meaning.Elements.{as_words}
use Rattle.spl_code.specs.spl_meaning.Bound.{weight, trees_weight, string_words, target_weight, source_weight, effect_weight, test_weight}
use Rattle.spl_code.specs.spl_branch.declared.pieces.Piece.{Piece}
use Rattle.spl_code.specs.spl_branch.declared.pieces.Piece.TheVariants.{Mark, Literal, Place as PlaceOf}
use Rattle.spl_code.specs.spl_branch.Pieces.{count_of}
use Rattle.spl_code.specs.Instructions.{LDI, LRA, BR, DEL, LOAD_BEFORE}
use Rattle.spl_code.specs.Parts.{Part, Wanted, pieces, piece, ◌⨟◌}
use Rattle.spl_code.specs.Constants.{constant, text_offset}
use Rattle.spl_code.specs.Operands.{at_place, mode_of}
use Rattle.spl_code.specs.Calls.{Scope}
use Rattle.spl_code.specs.Code.{code, reference, as_value, as_test, related, arguments, index, variable, is_indexed}
use Rattle.spl_code.specs.Stores.{stored, field_stored, pointer_stored, own_stored, cell_stored, element_stored, led_stored, own_field, led_field, from_top}
use Rattle.spl_code.proofs.CountLemmas.{Few, few_then, few_more, few_pieces, few_fresh, few_one, few_constant, few_variable, few_named, count_append}
use Rattle.spl_code.proofs.CountLaws.{few_code, few_index, few_reference, few_arguments}
use Rattle.spl_statement_code.specs.Instructions.{TEST, LSUB, TBA, MTBA}
use Rattle.spl_statement_code.specs.Landings.{Landing, dropped, jump, gone_to, landed}
use Rattle.spl_statement_code.specs.Assignments.{assigned_access, index_kept, reference_index, target_index, reference_stored, field_of_reference_stored, target_stored, assigned}
use Rattle.spl_statement_code.specs.Effects.{kept_first, told, text_scaled, text_count, move_of, scan_of, leads_to_bytes, source_moved, effect}
use Rattle.spl_statement_code.specs.Statements.{tested, counter, counter_at, step_value, turns, arm, result_dropped, result_of, call_dropped}

-- ---- parts of expressions

-- a part whose words, with some to spare, are at most its weight
pub spared : (n m : ℕ) (p : Part) → ((l : ℕ) (ws : List Wanted) → count_of (p l ws).pieces + m ≤ n) → Few (n - m) p
spared n m p h = record { few = λ l ws. let all = h l ws in omega arith }

pub few_value : (c : Scope) (e : Tree) (k : ℕ) → Few (weight e - 12) (code c e as_value k)
few_value c e k = spared (weight e) 12 (code c e as_value k) (λ l ws. few_code c e as_value k l ws)

pub few_test : (c : Scope) (e : Tree) (fail k : ℕ) → Few (weight e - 8) (code c e (as_test fail) k)
few_test c e fail k = spared (weight e) 8 (code c e (as_test fail) k) (λ l ws. few_code c e (as_test fail) k l ws)

pub few_address : (c : Scope) (e : Tree) (k : ℕ) → Few (weight e - 12) (reference c e k)
few_address c e k = spared (weight e) 12 (reference c e k) (λ l ws. few_reference c e k l ws)

-- each expression has some weight
pub some_weight : (c : Scope) (e : Tree) → 12 ≤ weight e
some_weight c e = let all = few_code c e as_value 0 0 [] in omega arith

pub few_related : (op f : ℕ) → Few 4 (related op f)
few_related op f = few_one _

-- ---- jumps

few_by : {n : ℕ} (b : Bool) (ps qs : List Piece) → b ≡ true → count_of ps ≤ n → count_of (if b then ps else qs) ≤ n
few_by true ps qs is le = le
few_by false ps qs is le = absurd (false≢true is)

few_dropped : (n : ℕ) → n ≤ 255 → count_of (dropped n) ≤ 1
few_dropped n le = few_by (nat_le n 255) _ _ (le-leb n 255 le) (omega arith)

pub few_jump : (n m : ℕ) → n ≤ 255 → Few 5 (jump n m)
few_jump n m le = few_then (few_pieces {n = 1} (dropped n) (few_dropped n le)) (few_one (BR m))

pub few_gone : (o : Option Landing) (k : ℕ) → k ≤ 255 → Few 5 (gone_to o k)
few_gone (Some l) k le = few_jump (k - l.pending) l.mark (omega arith)
few_gone None k le = few_pieces {n = 5} [] (omega arith)

pub few_landed : (o : Option Landing) → Few 0 (landed o)
few_landed (Some l) = few_one (Mark l.mark)
few_landed None = few_pieces {n = 0} [] (omega arith)

-- ---- tests

pub few_tested : (c : Scope) (q : Test) (fail k : ℕ) → Few (test_weight q - 20) (tested c q fail k)
few_tested c (stat.Test.condition e) fail k = few_more (few_test c e fail k) (omega arith)
few_tested c (stat.Test.code op) fail k = few_related op fail

pub some_test : (q : Test) → 24 ≤ test_weight q
some_test (stat.Test.condition e) = omega arith
some_test (stat.Test.code op) = omega arith

-- ---- stores

few_own : (k : Kind) (m : Bool) (mode : Mode) → count_of (own_stored k m mode) ≤ 2
few_own kind.Integer true mode = omega arith
few_own kind.Logical true mode = omega arith
few_own kind.Byte true mode = omega arith
few_own kind.Double true mode = omega arith
few_own kind.Integer false mode = omega arith
few_own kind.Logical false mode = omega arith
few_own kind.Byte false mode = omega arith
few_own kind.Double false mode = omega arith

few_cell : (k : Kind) (m : Bool) (mode : Mode) → count_of (cell_stored k m mode) ≤ 6
few_cell kind.Integer true mode = omega arith
few_cell kind.Logical true mode = omega arith
few_cell kind.Byte true mode = omega arith
few_cell kind.Double true mode = omega arith
few_cell kind.Integer false mode = omega arith
few_cell kind.Logical false mode = omega arith
few_cell kind.Byte false mode = omega arith
few_cell kind.Double false mode = omega arith

few_element : (k : Kind) (m : Bool) (mode : Mode) → count_of (element_stored k m mode) ≤ 7
few_element kind.Integer true mode = omega arith
few_element kind.Logical true mode = omega arith
few_element kind.Byte true mode = omega arith
few_element kind.Double true mode = omega arith
few_element kind.Integer false mode = omega arith
few_element kind.Logical false mode = omega arith
few_element kind.Byte false mode = omega arith
few_element kind.Double false mode = omega arith

few_led : (k : Kind) (i m : Bool) (mode : Mode) → count_of (led_stored k i m mode) ≤ 7
few_led k true m mode = few_element k m mode
few_led k false m mode = let all = few_cell k m mode in omega arith

few_stored : (a : Access) (i : Bool) (k : ℕ) (place : p.Place) → count_of (stored a i k place) ≤ 7
few_stored (its_own n) i k place = let all = few_own n (from_top place) (mode_of k place) in omega arith
few_stored (by_address n) i k place = few_led n i (from_top place) (mode_of k place)
few_stored (by_cell b n) i k place = few_led n i (from_top place) (mode_of k place)
few_stored its_result i k place = omega arith
few_stored nowhere i k place = omega arith

few_own_field : (s n : ℕ) (m : Bool) (mode : Mode) → count_of (own_field s n m mode) ≤ 5
few_own_field s n true mode = omega arith
few_own_field s n false mode = omega arith

few_led_field : (s n : ℕ) (i m : Bool) (mode : Mode) → count_of (led_field s n i m mode) ≤ 9
few_led_field s n true true mode = omega arith
few_led_field s n true false mode = omega arith
few_led_field s n false true mode = omega arith
few_led_field s n false false mode = omega arith

few_field_stored : (a : Access) (s n : ℕ) (i : Bool) (k : ℕ) (place : p.Place) → count_of (field_stored a s n i k place) ≤ 9
few_field_stored (its_own _) s n i k place = let all = few_own_field s n (from_top place) (mode_of k place) in omega arith
few_field_stored (by_address _) s n i k place = few_led_field s n i (from_top place) (mode_of k place)
few_field_stored (by_cell b _) s n i k place = few_led_field s n i (from_top place) (mode_of k place)
few_field_stored its_result s n i k place = omega arith
few_field_stored nowhere s n i k place = omega arith

few_at : (n : ℕ) (o : Option p.Place) (f : p.Place → List Piece) → ((x : p.Place) → count_of (f x) ≤ n) → count_of (at_place o f) ≤ n
few_at n (Some x) f h = h x
few_at n None f h = omega arith

few_in_reference : (c : Scope) (r : Tree) (k : ℕ) → count_of (reference_stored c r k) ≤ 9
few_in_reference c (tree.Tree.named x es at) k =
    few_at 9 (c.places x) _ (λ place. let all = few_stored (assigned_access (c.names x)) (is_indexed es) k place in omega arith)
few_in_reference c (tree.Tree.number v) k = omega arith
few_in_reference c (tree.Tree.wide v) k = omega arith
few_in_reference c (tree.Tree.text bytes) k = omega arith
few_in_reference c (tree.Tree.truth b) k = omega arith
few_in_reference c (tree.Tree.address x es at) k = omega arith
few_in_reference c (tree.Tree.unary op e at) k = omega arith
few_in_reference c (tree.Tree.binary op a b at) k = omega arith
few_in_reference c (tree.Tree.shift op e by at) k = omega arith
few_in_reference c (tree.Tree.field e start size at) k = omega arith
few_in_reference c (tree.Tree.transfer to e at) k = omega arith
few_in_reference c (tree.Tree.bytes op a b count at) k = omega arith

few_in_name : (c : Scope) (x : List ℕ) (i : Bool) (s n k : ℕ) (b : Bool)
    → count_of (if b then at_place (c.places x) (λ place. field_stored (assigned_access (c.names x)) s n i k place) else []) ≤ 9
few_in_name c x i s n k true = few_at 9 (c.places x) _ (λ place. few_field_stored (assigned_access (c.names x)) s n i k place)
few_in_name c x i s n k false = omega arith

few_in_field : (c : Scope) (r : Tree) (s n k : ℕ) → count_of (field_of_reference_stored c r s n k) ≤ 9
few_in_field c (tree.Tree.named x es at) s n k = few_in_name c x (is_indexed es) s n k _
few_in_field c (tree.Tree.number v) s n k = omega arith
few_in_field c (tree.Tree.wide v) s n k = omega arith
few_in_field c (tree.Tree.text bytes) s n k = omega arith
few_in_field c (tree.Tree.truth b) s n k = omega arith
few_in_field c (tree.Tree.address x es at) s n k = omega arith
few_in_field c (tree.Tree.unary op e at) s n k = omega arith
few_in_field c (tree.Tree.binary op a b at) s n k = omega arith
few_in_field c (tree.Tree.shift op e by at) s n k = omega arith
few_in_field c (tree.Tree.field e start size at) s n k = omega arith
few_in_field c (tree.Tree.transfer to e at) s n k = omega arith
few_in_field c (tree.Tree.bytes op a b count at) s n k = omega arith

few_in_target : (c : Scope) (to : Target) (k : ℕ) → count_of (target_stored c to k) ≤ 9
few_in_target c (stat.Target.plain r) k = few_in_reference c r k
few_in_target c (stat.Target.field r start size) k = few_in_field c r (small_constant c.names start) (small_constant c.names size) k
few_in_target c (stat.Target.address x at) k = few_at 9 (c.places x) (λ place. pointer_stored k place) (λ place. omega arith)

-- ---- targets

few_kept : (c : Scope) (es : Trees) (k : ℕ) → Few (trees_weight es) (index_kept c es k)
few_kept c tree.Trees.none k = few_pieces {n = 0} [] (omega arith)
few_kept c (tree.Trees.and e es) k = few_more (few_value c e k) (omega arith)

few_reference_index : (c : Scope) (r : Tree) (k : ℕ) → Few (weight r) (reference_index c r k)
few_reference_index c (tree.Tree.named x es at) k = few_more (few_kept c es k) (omega arith)
few_reference_index c (tree.Tree.number v) k = few_pieces [] (omega arith)
few_reference_index c (tree.Tree.wide v) k = few_pieces [] (omega arith)
few_reference_index c (tree.Tree.text bytes) k = few_pieces [] (omega arith)
few_reference_index c (tree.Tree.truth b) k = few_pieces [] (omega arith)
few_reference_index c (tree.Tree.address x es at) k = few_pieces [] (omega arith)
few_reference_index c (tree.Tree.unary op e at) k = few_pieces [] (omega arith)
few_reference_index c (tree.Tree.binary op a b at) k = few_pieces [] (omega arith)
few_reference_index c (tree.Tree.shift op e by at) k = few_pieces [] (omega arith)
few_reference_index c (tree.Tree.field e start size at) k = few_pieces [] (omega arith)
few_reference_index c (tree.Tree.transfer to e at) k = few_pieces [] (omega arith)
few_reference_index c (tree.Tree.bytes op a b count at) k = few_pieces [] (omega arith)

few_target_index : (c : Scope) (to : Target) (k : ℕ) → Few (target_weight to) (target_index c to k)
few_target_index c (stat.Target.plain r) k = few_more (few_reference_index c r k) (omega arith)
few_target_index c (stat.Target.field r start size) k = few_more (few_reference_index c r k) (omega arith)
few_target_index c (stat.Target.address x at) k = few_pieces [] (omega arith)

pub few_assigned : {n : ℕ} (c : Scope) (to : Target) (value : ℕ → Part) (k : ℕ) → ((j : ℕ) → Few n (value j)) → Few (target_weight to + n + 9) (assigned c to value k)
few_assigned c to value k h =
    few_then (few_then (few_target_index c to k) (h (waiting to k))) (few_pieces {n = 9} (target_stored c to k) (few_in_target c to k))

-- ---- MOVE and SCAN

few_kept_first : (used : Bool) → count_of (kept_first used) ≤ 1
few_kept_first true = omega arith
few_kept_first false = omega arith

few_told : (used : Bool) → count_of (told used) ≤ 2
few_told true = omega arith
few_told false = omega arith

count_literals : (ws : List ℕ) → count_of (map Literal ws) ≡ length ws
count_literals [] = refl
count_literals (w ∷ ws) = omega (arith, count_literals ws)

pub length_words : (bs : List ℕ) → length (as_words bs) ≡ string_words bs
length_words [] = refl
length_words (a ∷ []) = refl
length_words (a ∷ b ∷ bs) = omega (arith, length_words bs)

few_literals : (bs : List ℕ) → count_of (map Literal (as_words bs)) ≤ string_words bs
few_literals bs = omega (arith, count_literals (as_words bs), length_words bs)

text_words : (bs : List ℕ) → Few (6 + string_words bs) (text_offset bs)
text_words bs = few_fresh _ (λ over. few_fresh _ (λ start.
    few_more (few_then (few_then (few_then (few_then (few_then (few_one (BR over)) (few_one (Mark start)))
    (few_pieces {n = string_words bs} (map Literal (as_words bs)) (few_literals bs))) (few_one (PlaceOf start))) (few_one (Mark over))) (few_one LOAD_BEFORE))
    (omega arith)))

few_scaled : (bytes : Bool) → count_of (text_scaled bytes) ≤ 1
few_scaled true = omega arith
few_scaled false = omega arith

few_move : (bytes : Bool) (n : ℕ) → Few 1 (piece (move_of bytes n))
few_move true n = few_one _
few_move false n = few_one _

few_scan : (until : Bool) → Few 1 (piece (scan_of until))
few_scan true = few_one _
few_scan false = few_one _

few_source : (c : Scope) (used bytes : Bool) (from : Source) (k : ℕ) → Few (source_weight from - 12) (source_moved c used bytes from k)
few_source c used bytes (stat.Source.counted from count) k =
    let a = some_weight c from in
    let b = some_weight c count in
    few_more (few_then (few_then (few_address c from (behind_first used k)) (few_value c count (behind_second used k))) (few_move bytes 0)) (omega arith)
few_source c used bytes (stat.Source.text text) k =
    few_more (few_then (few_then (few_then (text_words text) (few_pieces {n = 1} (text_scaled bytes) (few_scaled bytes)))
    (few_pieces {n = 3} (constant (text_count bytes text % 65536)) (few_constant (text_count bytes text % 65536)))) (few_move bytes 1)) (omega arith)
few_source c used bytes (stat.Source.class_of from class) k =
    let a = some_weight c from in
    few_more (few_then (few_address c from (behind_first used k)) (few_one _)) (omega arith)

some_source : (from : Source) → 24 ≤ source_weight from
some_source (stat.Source.counted from count) = omega arith
some_source (stat.Source.text text) = omega arith
some_source (stat.Source.class_of from class) = omega arith

pub few_effect : (c : Scope) (used : Bool) (e : Effect) (k : ℕ) → Few (effect_weight e - 24) (effect c used e k)
few_effect c used (stat.Effect.move to from) k =
    let a = some_weight c to in
    let b = some_source from in
    few_more (few_then (few_then (few_then (few_address c to k) (few_pieces {n = 1} (kept_first used) (few_kept_first used)))
    (few_source c used (leads_to_bytes c to) from k)) (few_pieces {n = 2} (told used) (few_told used))) (omega arith)
few_effect c used (stat.Effect.scan from until test) k =
    let a = some_weight c from in
    let b = some_weight c test in
    few_more (few_then (few_then (few_then (few_then (few_address c from k) (few_pieces {n = 1} (kept_first used) (few_kept_first used)))
    (few_value c test (behind_first used k))) (few_scan until)) (few_pieces {n = 2} (told used) (few_told used))) (omega arith)

pub some_effect : (e : Effect) → 24 ≤ effect_weight e
some_effect (stat.Effect.move to from) = omega arith
some_effect (stat.Effect.scan from until test) = omega arith

-- ---- FOR and CASE

few_counter_at : (a : Access) (m : Bool) (mode : Mode) → count_of (counter_at a m mode) ≤ 4
few_counter_at (its_own k) m mode =
    let all = few_own k m mode in
    let both = count_append (own_stored k m mode) (LRA false false mode ∷ []) in
    omega arith
few_counter_at (by_address k) true mode = omega arith
few_counter_at (by_address k) false mode = omega arith
few_counter_at (by_cell b k) m mode = omega arith
few_counter_at its_result m mode = omega arith
few_counter_at nowhere m mode = omega arith

pub few_counter : (c : Scope) (x : List ℕ) (k : ℕ) → Few 4 (pieces (counter c x k))
few_counter c x k = few_pieces {n = 4} (counter c x k)
    (few_at 4 (c.places x) _ (λ place. few_counter_at (access_of (c.names x)) (from_top place) (mode_of k place)))

pub few_step : (c : Scope) (es : Trees) (k : ℕ) → Few (1 + trees_weight es) (step_value c es k)
few_step c tree.Trees.none k = few_one (LDI 1)
few_step c (tree.Trees.and e es) k = few_more (few_value c e k) (omega arith)

pub few_turns : {n : ℕ} (body : Part) → Few n body → Few (n + 12) (turns body)
few_turns body h = few_fresh _ (λ again. few_fresh _ (λ end.
    few_more (few_then (few_then (few_then (few_then (few_then (few_one (TBA again)) (few_one (BR end))) (few_one (Mark again))) h) (few_one (MTBA again))) (few_one (Mark end)))
    (omega arith)))

pub few_arm : {n : ℕ} (body : Part) (end : ℕ) → Few n body → Few (n + 12) (arm body end)
few_arm body end h = few_fresh _ (λ next.
    few_more (few_then (few_then (few_then (few_then (few_then (few_then (few_then (few_one TEST) (few_related 0 next)) (few_one DEL)) h) (few_one (BR end)))
    (few_one (Mark next))) (few_one (LDI 1))) (few_one LSUB)) (omega arith))

-- ---- calls

few_result : (k : Option Kind) → count_of (result_dropped k) ≤ 1
few_result None = omega arith
few_result (Some kind.Integer) = omega arith
few_result (Some kind.Logical) = omega arith
few_result (Some kind.Byte) = omega arith
few_result (Some kind.Double) = omega arith

pub few_call : (c : Scope) (x : List ℕ) (es : Trees) (at : At) (k : ℕ) → Few (4 + trees_weight es) (call_dropped c x es at k)
few_call c x es at k =
    let args = λ (p : Profile). few_arguments c p.formals es (k + result_words p) in
    let at_index = few_more {m = 3 + trees_weight es} (few_then (few_index c es false k) (few_variable c x (is_indexed es) k)) (omega arith) in
    few_more (few_then (few_then
    (few_named c x (sense_of x (c.names x)) (λ p. arguments c p.formals es (k + result_words p)) (index c es false k ⨟ variable c x (is_indexed es) k) args at_index)
    (few_pieces {n = 0} [] (omega arith)))
    (few_pieces {n = 1} (result_dropped (result_of (callable (c.names x)))) (few_result (result_of (callable (c.names x)))))) (omega arith)
