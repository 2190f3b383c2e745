-- What is spelled as a heading is read, and so are options.
use Rattle.std.proofs.Common.{◌≡◌, ◌||◌, ◌<◌, ◌≤◌, Bool, true, false, if◌then◌else◌, List, [], ◌∷◌, ◌++◌, length, Option, Some, refl, arith, ap, sym, append_assoc, append-nil}
use Rattle.spl_reading.specs.spl_tree.declared.expressions.Kind.{Kind}
use Rattle.spl_reading.specs.spl_tree.declared.expressions.Kind.TheVariants as kind
use Rattle.spl_reading.specs.spl_tree.declared.symbols.Symbol.{Symbol}
use Rattle.spl_reading.specs.spl_tree.declared.symbols.Symbol.TheVariants as s
use Rattle.spl_reading.specs.spl_tree.declared.symbols.Reserved.TheVariants as w
use Rattle.spl_reading.specs.spl_tree.Symbols.{Lexeme, Is}
use Rattle.spl_reading.specs.spl_tree.DeclarationTrees as decl
use Rattle.spl_reading.specs.spl_tree.DeclarationTrees.{Placed}
use Rattle.spl_reading.specs.spl_tree.Declarations as dl
use Rattle.spl_reading.specs.spl_tree.Declarations.{Separated, one, more, Options, both, fit, option_of, no_options}
use Rattle.spl_reading.specs.Readers.{Outcome, Got, Parser, ◌>>=◌, by_symbol, pure, refuse, take, repeat, same_symbol, symbol_number, reserved_number}
use Rattle.spl_reading.specs.ReadExpressions.{is}
use Rattle.spl_reading.specs.ReadDeclarations.{by_token, option_among, option_behind, more_options, options, parameters, spec_names, spec_behind, spec_by, more_specs, heading_tail}
use Rattle.spl_grammar.proofs.LocalDeclarations.{takes_more_options, takes_more_specs}
use Rattle.spl_grammar.proofs.NearReaders.{Near, near_to, near_from, near_then, near_pure, near_take, near_symbol, near_head, near_if, near_else, near_expect, near_turn, near_last, same_self}
use Rattle.spl_grammar.proofs.CompleteParts.{Ends, semicolon, close, no_comma, choose_else, names_read}
use Rattle.spl_grammar.proofs.FirstTokens.{Begins, with_first, by_is}

among : (a b : Options) (ts : List Lexeme) → fit (both a b) ≡ true
    → option_among a (Some b) ts ≡ (take >>= (λ _. pure (both a b))) ts
unfolding option_among
among a b ts e = rw e refl

near_at : {A : Type 0} {p : Parser A} {ts us m : List Lexeme} {y : Outcome A} → ts ≡ us → Near p us m y → Near p ts m y
near_at q n = rw q n

-- one option
option_read : (a b : Options) {t : Lexeme} {rest : List Lexeme} → Is s.Name t → option_of t.letters ≡ Some b
    → fit (both a b) ≡ true → Near (option_behind a) (t ∷ rest) rest (Got (both a b) rest)
unfolding option_behind by_token
option_read a b {t = t} {rest = rest} i e f = near_from (go t.symbol (option_of t.letters) i e)
    (near_then _ near_take (near_pure _ _))
  where
    go : (k : Symbol) (o : Option Options) → k ≡ s.Name → o ≡ Some b
        → (if is s.Name k then option_among a o else refuse) (t ∷ rest) ≡ (take >>= (λ _. pure (both a b))) (t ∷ rest)
    go k o x y = rw (x, same_self s.Name, y) (among a b (t ∷ rest) f)

-- options: the first, and the loop of the others
record OptionsRead (a c : Options) (ts rest : List Lexeme) : Type 0 where
  pub first : Options
  pub middle : List Lexeme
  pub reads : Near (option_behind a) ts middle (Got first middle)
  pub others : Near (repeat more_options first) middle rest (Got c rest)

options_claim : {a c : Options} {ts rest : List Lexeme} → dl.OptionList a c ts rest → Ends rest
    → OptionsRead a c ts rest
unfolding more_options
options_claim {rest = rest} (dl.OptionList.one {a = a} {b = b} i e f) n = record {
  first = both a b;
  middle = rest;
  reads = option_read a b i e f;
  others = near_last _ (choose_else (is s.Comma) _ (no_comma n) (near_pure _ _));
}
options_claim {rest = rest} (dl.OptionList.more {a = a} {b = b} {k = k} {ts = ts} i e f j l) n = let r = options_claim
    l n in record {
      first = both a b;
      middle = k ∷ ts;
      reads = option_read a b i e f;
      others = near_turn {v = r.first} {m = r.middle} takes_more_options (let m = r.reads.within in omega arith)
          (near_symbol _ j (near_if _ (same_self s.Comma) (near_then _ near_take (near_then _ r.reads (near_pure _ _)))))
          r.others;
    }

pub options_read : {a : Options} {ts rest : List Lexeme} → dl.OptionList no_options a ts rest → Ends rest
    → Near options ts rest (Got a rest)
unfolding options
options_read l e = let r = options_claim l e in near_then _ r.reads r.others

pub parameters_read : {ns : List Placed} {ts rest : List Lexeme} → dl.Parameters ns ts rest
    → Begins (is s.Open) false rest → Near parameters ts rest (Got ns rest)
unfolding parameters
parameters_read dl.Parameters.absent b = choose_else (is s.Open) _ b (near_pure _ _)
parameters_read (dl.Parameters.given o l z) b = near_symbol _ o
    (near_if _ (same_self s.Open) (near_then _ near_take
    (near_then _ (names_read l (close z)) (near_then _ (near_expect z) (near_pure _ _)))))

-- the word of a kind
abbrev pub is_kind : Symbol → Bool
is_kind (s.Type c) = true
is_kind _ = false

-- what can begin a further part of a heading
abbrev pub goes_on : Symbol → Bool
goes_on k = is_kind k || is (s.Word w.Array) k || is (s.Word w.Value) k

spec_else : (ss : List decl.Spec) (k : Symbol) → is_kind k ≡ false
    → spec_by ss k ≡ by_symbol (λ k. if is (s.Word w.Array) k then
    (take >>= λ _. spec_names kind.Logical true >>= λ x. pure (true, ss ++ x ∷ [])) else pure (false, ss))
unfolding spec_by
spec_else ss (s.Type c) e = cc
spec_else ss _ e = refl

none_of : (a b c : Bool) → (a || b || c) ≡ false → (a ≡ false) × (b ≡ false) × (c ≡ false)
none_of false false false e = (refl, refl, refl)
none_of true b c e = cc
none_of false true c e = cc
none_of false false true e = cc

-- the loop of specifications stops at what is no further part
specs_stop : (ss : List decl.Spec) {ts : List Lexeme} → Begins goes_on false ts
    → Near (repeat more_specs ss) ts ts (Got ss ts)
unfolding more_specs
specs_stop ss (with_first {t = t} {ts = ts} b) = let n = none_of (is_kind t.symbol) (is (s.Word w.Array) t.symbol)
    (is (s.Word w.Value) t.symbol) b in
    near_last _ (near_head _ (near_from (ap (λ p. p (t ∷ ts)) (spec_else ss t.symbol n.0))
    (near_head _ (near_else _ n.1 (near_pure _ _)))))

-- what is read behind the ";" that a specification begins with
record SpecsRead (xs : List decl.Spec) (ts rest : List Lexeme) : Type 0 where
  pub head : Lexeme
  pub tail : List Lexeme
  pub split : ts ≡ head ∷ tail
  pub begins : Is s.Semicolon head
  pub no_value : Begins (is (s.Word w.Value)) false tail
  pub longer : length rest ≤ length tail
  pub reads : (so_far : List decl.Spec) → Near (repeat more_specs so_far) tail rest (Got (so_far ++ xs) rest)

no_value_of : {ts : List Lexeme} → Begins goes_on false ts → Begins (is (s.Word w.Value)) false ts
no_value_of (with_first {t = t} b) = let n = none_of (is_kind t.symbol) (is (s.Word w.Array) t.symbol)
    (is (s.Word w.Value) t.symbol) b in with_first n.2

kind_no_value : (c : Kind) → is (s.Word w.Value) (s.Type c) ≡ false
unfolding same_symbol symbol_number
kind_no_value c = refl

array_no_value : is (s.Word w.Value) (s.Word w.Array) ≡ false
unfolding same_symbol symbol_number reserved_number
array_no_value = refl

name_no_array : {ns : List Placed} {ts rest : List Lexeme} → dl.Names ns ts rest → Begins (is (s.Word w.Array)) false ts
unfolding same_symbol symbol_number
name_no_array (one (dl.Name.name i)) = by_is _ _ _ _ _ i refl
name_no_array (more (dl.Name.name i) k l) = by_is _ _ _ _ _ i refl

shorter_names : {ns : List Placed} {ts rest : List Lexeme} → dl.Names ns ts rest → length rest < length ts
shorter_names (one (dl.Name.name i)) = omega arith
shorter_names (more (dl.Name.name i) k l) = let a = shorter_names l in omega arith

-- the names of some parameters, and the ";" behind them
spec_names_read : (c : Kind) (b : Bool) {ns : List Placed} {ts tail : List Lexeme} {k : Lexeme}
    → dl.Names ns ts (k ∷ tail) → Is s.Semicolon k
    → Near (spec_names c b) ts tail (Got (record { kind = c; array = b; names = ns }) tail)
unfolding spec_names
spec_names_read c b l i = near_then _ (names_read l (semicolon i)) (near_then _ (near_expect i) (near_pure _ _))

names_at : {ns : List Placed} {ts us vs : List Lexeme} → us ≡ vs → dl.Names ns ts us → dl.Names ns ts vs
names_at q l = rw (← q) l

specs_claim : {xs : List decl.Spec} {k : Lexeme} {ts rest : List Lexeme} → dl.Specs xs ts (k ∷ rest) → Is s.Semicolon k
    → Begins goes_on false rest → SpecsRead xs ts rest
unfolding more_specs spec_by spec_behind
specs_claim {k = k} {rest = rest} dl.Specs.none i b = record {
  head = k;
  tail = rest;
  split = refl;
  begins = i;
  no_value = no_value_of b;
  longer = omega arith;
  reads = λ so_far. near_to (specs_stop so_far b) (ap (λ us. Got us rest) (sym (append-nil so_far)));
}
specs_claim {rest = rest} (dl.Specs.words {c = c} {ns = ns} {ss = ss} {k = m} {t = t} {ts = ts} j u l x) i b = let r =
    specs_claim x i b in let n = names_at r.split l in let y = shorter_names n in let z = r.longer in
    record {
      head = m;
      tail = t ∷ ts;
      split = refl;
      begins = j;
      no_value = by_is _ _ _ _ _ u (kind_no_value c);
      longer = omega arith;
      reads = λ so_far. near_turn {v = so_far ++ record { kind = c; array = false; names = ns } ∷ []} {m = r.tail}
          takes_more_specs (omega arith)
          (near_symbol _ u (near_then _ near_take
          (near_then _ (choose_else (is (s.Word w.Array)) _ (name_no_array l) (spec_names_read c false n r.begins))
          (near_pure _ _))))
          (near_to (r.reads (so_far ++ record { kind = c; array = false; names = ns } ∷ []))
          (ap (λ us. Got us rest) (append_assoc so_far (record { kind = c; array = false; names = ns } ∷ []) ss)));
    }
specs_claim {rest = rest} (dl.Specs.arrays {c = c} {ns = ns} {ss = ss} {k = m} {a = a} j dl.OptionalKind.absent u l x)
    i b = let r = specs_claim x i b in let n = names_at r.split l in let y = shorter_names n in let z = r.longer in
    record {
      head = m;
      tail = _;
      split = refl;
      begins = j;
      no_value = by_is _ _ _ _ _ u array_no_value;
      longer = omega arith;
      reads = λ so_far. near_turn {v = so_far ++ record { kind = kind.Logical; array = true; names = ns } ∷ []}
          {m = r.tail} takes_more_specs (omega arith)
          (near_symbol _ u (near_symbol _ u
          (near_if _ (same_self (s.Word w.Array))
          (near_then _ near_take (near_then _ (spec_names_read kind.Logical true n r.begins) (near_pure _ _))))))
          (near_to (r.reads (so_far ++ record { kind = kind.Logical; array = true; names = ns } ∷ []))
          (ap (λ us. Got us rest) (append_assoc so_far
          (record { kind = kind.Logical; array = true; names = ns } ∷ []) ss)));
    }
specs_claim {rest = rest} (dl.Specs.arrays {c = c} {ns = ns} {ss = ss} {k = m} {a = a} j (dl.OptionalKind.given v) u l
    x) i b = let r = specs_claim x i b in let n = names_at r.split l in let y = shorter_names n in let z = r.longer in
    record {
      head = m;
      tail = _;
      split = refl;
      begins = j;
      no_value = by_is _ _ _ _ _ v (kind_no_value c);
      longer = omega arith;
      reads = λ so_far. near_turn {v = so_far ++ record { kind = c; array = true; names = ns } ∷ []} {m = r.tail}
          takes_more_specs (omega arith)
          (near_symbol _ v (near_then _ near_take
          (near_then _ (near_symbol _ u (near_if _ (same_self (s.Word w.Array))
          (near_then _ near_take (spec_names_read c true n r.begins)))) (near_pure _ _))))
          (near_to (r.reads (so_far ++ record { kind = c; array = true; names = ns } ∷ []))
          (ap (λ us. Got us rest) (append_assoc so_far (record { kind = c; array = true; names = ns } ∷ []) ss)));
    }

-- what stands behind the names of a heading
abbrev pub tail_pair : List Placed → List decl.Spec → List Placed × List decl.Spec
tail_pair vs ss = (vs, ss)

pub heading_tail_read : {vs : List Placed} {ss : List decl.Spec} {k : Lexeme} {ts mid rest : List Lexeme}
    → dl.Values vs ts mid → dl.Specs ss mid (k ∷ rest) → Is s.Semicolon k
    → Begins goes_on false rest → Near heading_tail ts rest (Got (tail_pair vs ss) rest)
unfolding heading_tail
heading_tail_read dl.Values.absent x i b = let r = specs_claim x i b in
    near_at r.split (near_then _ (near_expect r.begins)
    (choose_else (is (s.Word w.Value)) _ r.no_value (near_then _ (r.reads []) (near_pure _ _))))
heading_tail_read (dl.Values.given k v l) x i b = let r = specs_claim x i b in near_then _ (near_expect k)
    (near_symbol _ v (near_if _ (same_self (s.Word w.Value))
    (near_then _ near_take (near_then _ (names_read (names_at r.split l) (semicolon r.begins))
    (near_then _ (near_expect r.begins) (near_then _ (r.reads []) (near_pure _ _)))))))
