-- What is read as options or as a heading is spelled; a fault comes behind tokens that open it.
use Rattle.std.proofs.Common.{ℕ, ◌≡◌, ◌≤◌, Bool, true, false, List, [], ◌∷◌, ◌++◌, Option, Some, None, refl, ap, sym, ◌∙◌}
use Rattle.spl_reading.specs.spl_tree.declared.expressions.Kind.{Kind}
use Rattle.spl_reading.specs.spl_tree.declared.expressions.Kind.TheVariants as kind
use Rattle.spl_reading.specs.spl_tree.declared.symbols.Symbol.{Symbol}
use Rattle.spl_reading.specs.spl_tree.declared.symbols.Symbol.TheVariants as s
use Rattle.spl_reading.specs.spl_tree.declared.symbols.Reserved.{Reserved}
use Rattle.spl_reading.specs.spl_tree.declared.symbols.Reserved.TheVariants as w
use Rattle.spl_reading.specs.spl_tree.Symbols.{Lexeme, Is}
use Rattle.spl_reading.specs.spl_tree.Parts as part
use Rattle.spl_reading.specs.spl_tree.Parts.{Part}
use Rattle.spl_reading.specs.spl_tree.OpenDeclarations as od
use Rattle.spl_reading.specs.spl_tree.OpenExpressions as op
use Rattle.spl_reading.specs.spl_tree.OpenExpressions.{Opens, here, inner, OpensAt, nesting}
use Rattle.spl_reading.specs.spl_tree.DeclarationTrees as decl
use Rattle.spl_reading.specs.spl_tree.DeclarationTrees.{Placed}
use Rattle.spl_reading.specs.spl_tree.Declarations as dl
use Rattle.spl_reading.specs.spl_tree.Declarations.{Options, both, fit, option_of, no_options}
use Rattle.spl_reading.specs.Readers.{◌>>=◌, pure, take, repeat, by_symbol}
use Rattle.spl_reading.specs.ReadExpressions.{is}
use Rattle.spl_reading.specs.ReadDeclarations.{names, by_token, option_among, option_behind, more_options, options, parameters, spec_names, spec_behind, spec_by, more_specs, heading_tail, heading}
use Rattle.spl_grammar.specs.Answers.{Explains, bad}
use Rattle.spl_grammar.proofs.ExplainReaders.{at_here, explain_then, explain_expect, explain_next, explain_pure, explain_bad, explain_symbol, explain_if, explain_along, reached, along}
use Rattle.spl_grammar.proofs.ExplainReaders as er
use Rattle.spl_grammar.proofs.ExplainLoops.{TurnLeaves, goes_on, ends, repeat_explained}
use Rattle.spl_grammar.proofs.SoundOperands.{is_it}
use Rattle.spl_grammar.proofs.SoundLists.{ahead, names_explained}
use Rattle.spl_grammar.proofs.LocalDeclarations.{takes_more_options, takes_more_specs}

-- Options.

-- one option behind these
data OptionRead (a : Options) : Options → List Lexeme → List Lexeme → Type 0 where
  option_read : {b : Options} {t : Lexeme} {rest : List Lexeme} → Is s.Name t → option_of t.letters ≡ Some b
      → fit (both a b) ≡ true → OptionRead a (both a b) (t ∷ rest) rest

-- it is the last,
last_option : {a c : Options} {ts rest : List Lexeme} → OptionRead a c ts rest → dl.OptionList a c ts rest
last_option (option_read i e f) = dl.OptionList.one i e f

-- or a comma and others follow
option_before : {a b c : Options} {k : Lexeme} {ts mid rest : List Lexeme} → OptionRead a b ts (k ∷ mid) → Is s.Comma k
    → dl.OptionList b c mid rest → dl.OptionList a c ts rest
option_before (option_read i e f) j l = dl.OptionList.more i e f j l

-- behind it a comma may stand,
option_comma : {a b : Options} {ts mid : List Lexeme} → OptionRead a b ts mid
    → od.DeclarationStep (part.options a) ts part.mark mid
option_comma (option_read i e f) = od.options_comma i e f

-- and behind that a further one
option_next : {a b : Options} {k : Lexeme} {ts mid : List Lexeme} → OptionRead a b ts (k ∷ mid) → Is s.Comma k
    → od.DeclarationStep (part.options a) ts (part.options b) mid
option_next (option_read i e f) j = od.options_next i e f j

-- an option behind these
option_explained : {most : ℕ} (d : ℕ) (a : Options) (ts : List Lexeme) → nesting d 0 ≤ most
    → Explains most (λ b rest. OptionRead a b ts rest) (part.options a) d 0 ts (option_behind a ts)
unfolding option_behind by_token option_among
option_explained d a [] l = bad (at_here _ _ _ _) l
option_explained {most = most} d a (t ∷ us) l = explain_if (is s.Name t.symbol) _ _ (t ∷ us)
    (λ e. among (is_it s.Name t e) (option_of t.letters) refl) (λ e. explain_bad _ (at_here _ _ _ _) l)
  where
    among : Is s.Name t → (o : Option Options) → option_of t.letters ≡ o
        → Explains most (λ b rest. OptionRead a b (t ∷ us) rest) (part.options a) d 0 (t ∷ us)
        (option_among a o (t ∷ us))
    among i None e = explain_bad _ (at_here _ _ _ _) l
    among i (Some b) e = explain_if (fit (both a b)) _ _ (t ∷ us)
        (λ f. er.taken_explained _ (explain_pure _ us (option_read i e f)))
        (λ f. explain_bad _ (at_here _ _ _ _) l)

-- the options read so far, the last of them without its comma
record OptionsSoFar (first : Options) (ts : List Lexeme) (a : Options) (now : List Lexeme) : Type 0 where
  pub before : Options
  pub middle : List Lexeme
  pub gives : (c : Options) (rest : List Lexeme) → dl.OptionList before c middle rest → dl.OptionList first c ts rest
  pub opens : (d : ℕ) → Opens (part.options first) d 0 ts (part.options before) d 0 middle
  pub spelled : OptionRead before a middle now

module _ (most d : ℕ) (l : nesting d 0 ≤ most) (first : Options) (ts : List Lexeme) where
  -- what a turn over options leaves
  abbrev OptionTurn : Bool × Options → List Lexeme → Type 0
  OptionTurn = TurnLeaves (OptionsSoFar first ts) (λ c rest. dl.OptionList first c ts rest)

  -- behind a comma
  further_option : (a : Options) (t : Lexeme) (us : List Lexeme) → OptionsSoFar first ts a (t ∷ us) → Is s.Comma t
      → Explains most OptionTurn (part.options first) d 0 ts
      ((take >>= (λ _. option_behind a >>= (λ b. pure (true, b)))) (t ∷ us))
  further_option a t us x i =
      let opens : (d : ℕ) → Opens (part.options first) d 0 ts (part.options a) d 0 us =
      λ d. along (x.opens d) (inner (op.of_declaration (option_next x.spelled i)) here) in
      er.taken_explained _ (explain_along (option_behind a) _ (opens d) (option_explained d a us l)
      (λ b rest v. explain_pure _ rest (goes_on (record {
        before = a;
        middle = us;
        gives = λ c end o. x.gives c end (option_before x.spelled i o);
        opens = opens;
        spelled = v;
      }))))

  -- one turn of the loop: a further option, or the end of the list
  option_turn : (a : Options) (now : List Lexeme) → OptionsSoFar first ts a now
      → Explains most OptionTurn (part.options first) d 0 ts (more_options a now)
  unfolding more_options
  option_turn a now x = explain_symbol _ now (reached (x.opens d) (ahead (option_comma x.spelled))) l
      (λ t us q. explain_if (is s.Comma t.symbol) _ _ (t ∷ us)
      (λ e. further_option a t us (rw q at x) (is_it s.Comma t e))
      (λ e. explain_pure _ (t ∷ us) (ends (x.gives a (t ∷ us) (last_option (rw q at x.spelled))))))

-- opt { "," opt }
pub options_explained : {most : ℕ} (d : ℕ) (ts : List Lexeme) → nesting d 0 ≤ most
    → Explains most (λ a rest. dl.OptionList no_options a ts rest) (part.options no_options) d 0 ts (options ts)
unfolding options
options_explained {most = most} d ts l = explain_next (option_behind no_options) _ ts
    (option_explained d no_options ts l) (λ a rest v.
    repeat_explained most more_options takes_more_options (part.options no_options) d 0 ts (OptionsSoFar no_options ts)
    (λ c end. dl.OptionList no_options c ts end) (option_turn most d l no_options ts) a rest (record {
      before = no_options;
      middle = ts;
      gives = λ c end o. o;
      opens = λ d. here;
      spelled = v;
    }))

-- Headings.

-- two lists of specifications, one behind the other
specs_then : {us vs : List decl.Spec} {ts mid rest : List Lexeme} → dl.Specs us ts mid → dl.Specs vs mid rest
    → dl.Specs (us ++ vs) ts rest
specs_then dl.Specs.none b = b
specs_then (dl.Specs.words i j n a) b = dl.Specs.words i j n (specs_then a b)
specs_then (dl.Specs.arrays i k j n a) b = dl.Specs.arrays i k j n (specs_then a b)

-- the specifications read so far, and the ";" behind them
pub record SpecsSoFar (ts : List Lexeme) (ss : List decl.Spec) (now : List Lexeme) : Type 0 where
  pub mark : Lexeme
  pub semicolon : Is s.Semicolon mark
  pub spelled : dl.Specs ss ts (mark ∷ now)

-- one further specification, whose ";" is the one behind the others
record SpecRead (mark : Lexeme) (now : List Lexeme) (x : decl.Spec) (rest : List Lexeme) : Type 0 where
  pub next : Lexeme
  pub semicolon : Is s.Semicolon next
  pub spelled : dl.Specs (x ∷ []) (mark ∷ now) (next ∷ rest)

-- the same behind an equal list
names_at : {ns : List Placed} {ts us vs : List Lexeme} → us ≡ vs → dl.Names ns ts us → dl.Names ns ts vs
names_at q p = rw (← q) p

result_at : {r : Option Kind} {ts us vs : List Lexeme} → us ≡ vs → dl.Result r ts us → dl.Result r ts vs
result_at q p = rw (← q) p

specs_at : {ss : List decl.Spec} {ts us vs : List Lexeme} → us ≡ vs → dl.Specs ss ts us → dl.Specs ss ts vs
specs_at q p = rw (← q) p

-- What has been read of a heading with the word k: its type, that word p, the name t and the parameters.
pub record Opened (k : Reserved) (r : Option Kind) (ns : List Placed) (p t : Lexeme)
    (ts mid next : List Lexeme) : Type 0 where
  pub result : dl.Result r ts (p ∷ t ∷ mid)
  pub word : Is (s.Word k) p
  pub name : Is s.Name t
  pub parameters : dl.Parameters ns mid next

-- what stands behind the parameters, up to the ";" at the end
pub record TailRead (ts : List Lexeme) (x : List Placed × List decl.Spec) (rest : List Lexeme) : Type 0 where
  pub middle : List Lexeme
  pub values : dl.Values x.0 ts middle
  pub specs : SpecsSoFar middle x.1 rest

-- Behind the parameters.
module _ (most d : ℕ) (l : nesting d 0 ≤ most) (k : Reserved) (r : Option Kind) (ns : List Placed) (p t : Lexeme)
    (ts mid next : List Lexeme) (x : Opened k r ns p t ts mid next) where
  -- Behind the VALUE list, where there is one.
  module _ (vs : List Placed) (last : List Lexeme) (values : dl.Values vs next last) where
    -- what a turn over specifications leaves
    abbrev SpecTurn : Bool × List decl.Spec → List Lexeme → Type 0
    SpecTurn = TurnLeaves (SpecsSoFar last) (SpecsSoFar last)

    -- the names of a specification, and its ";"
    spec_names_explained : (c : Kind) (b : Bool) (ss : List decl.Spec) (j : Lexeme) (now us : List Lexeme)
        → dl.Specs ss last (j ∷ now) → od.DeclarationStep (part.heading k) ts part.names us
        → ((qs : List Placed) (rest : List Lexeme) → dl.Names qs us rest
        → dl.Specs (record { kind = c; array = b; names = qs } ∷ []) (j ∷ now) rest)
        → Explains most (SpecRead j now) (part.heading k) d 0 ts (spec_names c b us)
    unfolding spec_names
    spec_names_explained c b ss j now us before into made = explain_then names _ (op.of_declaration into)
        (names_explained d us l) (λ qs after n.
        explain_expect s.Semicolon _ after (ahead (od.heading_specs x.result x.word x.name x.parameters values
        (specs_then before (made qs after n)))) l (λ z rest q i.
        explain_pure _ rest (record { next = z; semicolon = i; spelled = made qs (z ∷ rest) (names_at q n) })))

    -- behind the word of a kind
    typed_spec : (c : Kind) (ss : List decl.Spec) (j u : Lexeme) (us : List Lexeme) → dl.Specs ss last (j ∷ u ∷ us)
        → Is s.Semicolon j → Is (s.Type c) u
        → Explains most (SpecRead j (u ∷ us)) (part.heading k) d 0 ts (spec_behind c us)
    unfolding spec_behind
    typed_spec c ss j u us before i y = explain_symbol _ us
        (ahead (od.heading_spec_array x.result x.word x.name x.parameters values before i y)) l (λ a rest q.
        let before1 = specs_at (ap (λ vs. j ∷ u ∷ vs) q) before in rw q (
        explain_if (is (s.Word w.Array) a.symbol) _ _ (a ∷ rest)
        (λ e. let z = is_it (s.Word w.Array) a e in er.taken_explained _ (
        spec_names_explained c true ss j (u ∷ a ∷ rest) rest before1
        (od.heading_array_names x.result x.word x.name x.parameters values before1 i (dl.OptionalKind.given y) z)
        (λ qs end n. dl.Specs.arrays i (dl.OptionalKind.given y) z n dl.Specs.none)))
        (λ e. spec_names_explained c false ss j (u ∷ a ∷ rest) (a ∷ rest) before1
        (od.heading_spec_names x.result x.word x.name x.parameters values before1 i y)
        (λ qs end n. dl.Specs.words i y n dl.Specs.none))))

    -- ARRAY without a kind
    plain_spec : (ss : List decl.Spec) (j u : Lexeme) (us : List Lexeme) → dl.Specs ss last (j ∷ u ∷ us)
        → Is s.Semicolon j → Is (s.Word w.Array) u
        → Explains most (SpecRead j (u ∷ us)) (part.heading k) d 0 ts (spec_names kind.Logical true us)
    plain_spec ss j u us before i y = spec_names_explained kind.Logical true ss j (u ∷ us) us before
        (od.heading_array_names x.result x.word x.name x.parameters values before i dl.OptionalKind.absent y)
        (λ qs end n. dl.Specs.arrays i dl.OptionalKind.absent y n dl.Specs.none)

    -- behind a further one
    spec_added : (ss : List decl.Spec) (j : Lexeme) (now : List Lexeme) (y : decl.Spec) (rest : List Lexeme)
        → dl.Specs ss last (j ∷ now) → SpecRead j now y rest → SpecTurn (true, ss ++ y ∷ []) rest
    spec_added ss j now y rest before v = goes_on
        (record { mark = v.next; semicolon = v.semicolon; spelled = specs_then before v.spelled })

    spec_explained : (ss : List decl.Spec) (j u : Lexeme) (us : List Lexeme) (y : Symbol) → Is y u
        → dl.Specs ss last (j ∷ u ∷ us) → Is s.Semicolon j
        → Explains most SpecTurn (part.heading k) d 0 ts (spec_by ss y (u ∷ us))
    unfolding spec_by by_symbol
    spec_explained ss j u us (s.Type c) o before i = er.taken_explained _
        (explain_next (spec_behind c) _ us (typed_spec c ss j u us before i o)
        (λ y rest v. explain_pure _ rest (spec_added ss j (u ∷ us) y rest before v)))
    spec_explained ss j u us _ o before i = explain_if (is (s.Word w.Array) u.symbol) _ _ (u ∷ us)
        (λ e. er.taken_explained _ (explain_next (spec_names kind.Logical true) _ us
        (plain_spec ss j u us before i (is_it (s.Word w.Array) u e))
        (λ y rest v. explain_pure _ rest (spec_added ss j (u ∷ us) y rest before v))))
        (λ e. explain_pure _ (u ∷ us) (ends (record { mark = j; semicolon = i; spelled = before })))

    spec_turn : (ss : List decl.Spec) (now : List Lexeme) → SpecsSoFar last ss now
        → Explains most SpecTurn (part.heading k) d 0 ts (more_specs ss now)
    unfolding more_specs
    spec_turn ss now v = explain_symbol _ now
        (ahead (od.heading_spec x.result x.word x.name x.parameters values v.spelled v.semicolon)) l
        (λ u us q. spec_explained ss v.mark u us u.symbol refl (specs_at (ap (λ vs. v.mark ∷ vs) q) v.spelled)
        v.semicolon)

    -- the specifications behind a ";"
    specs_explained : (j : Lexeme) (us : List Lexeme) → last ≡ j ∷ us → Is s.Semicolon j
        → Explains most (SpecsSoFar last) (part.heading k) d 0 ts (repeat more_specs [] us)
    specs_explained j us q i = repeat_explained most more_specs takes_more_specs (part.heading k) d 0 ts
        (SpecsSoFar last) (SpecsSoFar last) spec_turn [] us
        (record { mark = j; semicolon = i; spelled = specs_at q dl.Specs.none })

  -- ";" [ VALUE names ";" ] { spec ";" }
  tail_explained : Explains most (TailRead next) (part.heading k) d 0 ts (heading_tail next)
  unfolding heading_tail
  tail_explained = explain_expect s.Semicolon _ next
      (ahead (od.heading_semicolon x.result x.word x.name x.parameters)) l (λ j us q i.
      explain_symbol _ us (ahead (od.heading_spec x.result x.word x.name x.parameters dl.Values.absent
      (specs_at q dl.Specs.none) i)) l (λ v rest q2.
      explain_if (is (s.Word w.Value) v.symbol) _ _ (v ∷ rest)
      (λ e. let y = is_it (s.Word w.Value) v e in let o = parameters_at (q ∙ ap (λ vs. j ∷ vs) q2) x.parameters in
      er.taken_explained _ (
      explain_then names _ (op.of_declaration (od.heading_values x.result x.word x.name o i y))
      (names_explained d rest l) (λ vs after n.
      let g = values_at (sym (q ∙ ap (λ vs. j ∷ vs) q2)) (dl.Values.given i y n) in
      explain_expect s.Semicolon _ after
      (ahead (od.heading_specs x.result x.word x.name x.parameters g dl.Specs.none)) l (λ z more q3 i3.
      explain_next (repeat more_specs []) _ more (specs_explained vs after g z more q3 i3) (λ ss end w.
      explain_pure _ end (record { middle = after; values = g; specs = w }))))))
      (λ e. explain_next (repeat more_specs []) _ (v ∷ rest)
      (specs_explained [] next dl.Values.absent j (v ∷ rest) (q ∙ ap (λ vs. j ∷ vs) q2) i) (λ ss end w.
      explain_pure _ end (record { middle = next; values = dl.Values.absent; specs = w })))))
    where
      parameters_at : {ns : List Placed} {ts us vs : List Lexeme} → us ≡ vs → dl.Parameters ns ts us
          → dl.Parameters ns ts vs
      parameters_at q p = rw (← q) p

      values_at : {ns : List Placed} {ts us rest : List Lexeme} → ts ≡ us → dl.Values ns ts rest
          → dl.Values ns us rest
      values_at q p = rw (← q) p

-- [ "(" name { "," name } ")" ], behind the name of a heading
parameters_explained : {most : ℕ} (d : ℕ) (k : Reserved) (r : Option Kind) (p t : Lexeme) (ts mid : List Lexeme)
    → nesting d 0 ≤ most → dl.Result r ts (p ∷ t ∷ mid) → Is (s.Word k) p → Is s.Name t
    → Explains most (λ ns rest. dl.Parameters ns mid rest) (part.heading k) d 0 ts (parameters mid)
unfolding parameters
parameters_explained d k r p t ts mid l v i j = explain_symbol _ mid (ahead (od.heading_mark v i j)) l (λ o us q.
    let v1 = result_at (ap (λ vs. p ∷ t ∷ vs) q) v in rw q (
    explain_if (is s.Open o.symbol) _ _ (o ∷ us)
    (λ e. let y = is_it s.Open o e in er.taken_explained _ (
    explain_then names _ (op.of_declaration (od.heading_names v1 i j y)) (names_explained d us l) (λ ns after n.
    explain_expect s.Close _ after (ahead (od.heading_close v1 i j y n)) l (λ z rest q2 i2.
    explain_pure ns rest (dl.Parameters.given y (names_at q2 n) i2)))))
    (λ e. explain_pure [] (o ∷ us) dl.Parameters.absent)))

-- A heading with the word k that was read, which is of this segment by its word; whether it is split is said later.
pub record HeadingRead (k : Reserved) (segment : Lexeme → ℕ) (ts : List Lexeme) (h : Bool → decl.Heading)
    (rest : List Lexeme) : Type 0 where
  pub kind : Option Kind
  pub names : List Placed
  pub tail : List Placed × List decl.Spec
  pub word : Lexeme
  pub name : Lexeme
  pub middle : List Lexeme
  pub next : List Lexeme
  pub opened : Opened k kind names word name ts middle next
  pub behind : TailRead next tail rest
  pub made : h ≡ (λ split. record {
    result = kind;
    name = name.letters;
    names = names;
    values = tail.0;
    specs = tail.1;
    split = split;
    at = name.at;
    segment = segment word;
  })

-- a heading, from its word on
pub heading_explained : {most : ℕ} (d : ℕ) (k : Reserved) (r : Option Kind) (segment : Lexeme → ℕ) (p : Lexeme)
    (ts us : List Lexeme) → nesting d 0 ≤ most → dl.Result r ts (p ∷ us) → Is (s.Word k) p
    → Explains most (HeadingRead k segment ts) (part.heading k) d 0 ts (heading r segment (p ∷ us))
unfolding heading
heading_explained {most = most} d k r segment p ts us l v i = er.taken_explained _ (
    explain_expect s.Name _ us (ahead (od.heading_name v i)) l (λ t mid q j.
    let v1 = result_at (ap (λ vs. p ∷ vs) q) v in
    explain_next parameters _ mid (parameters_explained d k r p t ts mid l v1 i j) (λ ns next n.
    let x = opened r ns p t mid next v1 i j n in
    explain_next heading_tail _ next (tail_explained most d l k r ns p t ts mid next x) (λ y rest z.
    explain_pure _ rest (record {
      kind = r;
      names = ns;
      tail = y;
      word = p;
      name = t;
      middle = mid;
      next = next;
      opened = x;
      behind = z;
      made = refl;
    })))))
  where
    opened : (r : Option Kind) (ns : List Placed) (p t : Lexeme) (mid next : List Lexeme)
        → dl.Result r ts (p ∷ t ∷ mid) → Is (s.Word k) p → Is s.Name t → dl.Parameters ns mid next
        → Opened k r ns p t ts mid next
    opened r ns p t mid next v i j n = record { result = v; word = i; name = j; parameters = n }

-- It is the heading of a procedure, in the segment in force at its word,
pub procedure_heading : {h : Bool → decl.Heading} {ts rest : List Lexeme} (split : Bool)
    → HeadingRead w.Procedure (λ p. p.segment) ts h rest → dl.Heading split (h split) ts rest
procedure_heading split x = rw x.made (dl.Heading.heading x.opened.result x.opened.word x.opened.name
    x.opened.parameters x.behind.values x.behind.specs.spelled x.behind.specs.semicolon)

-- or that of a subroutine, in this segment
pub subroutine_heading : {segment : ℕ} {h : Bool → decl.Heading} {ts rest : List Lexeme}
    → HeadingRead w.Subroutine (λ p. segment) ts h rest → dl.SubroutineHeading segment (h false) ts rest
subroutine_heading x = rw x.made (dl.SubroutineHeading.heading x.opened.result x.opened.word x.opened.name
    x.opened.parameters x.behind.values x.behind.specs.spelled x.behind.specs.semicolon)
