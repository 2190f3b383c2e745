-- What computes when a known program is run.
use Rattle.std.specs.Prelude.{ℕ}
use Rattle.spl_meaning.specs.hp_word.Words as w
use Rattle.spl_meaning.specs.hp_word.Bits as bits
use Rattle.spl_meaning.specs.hp_word.Bytes as bytes
use Rattle.spl_meaning.specs.hp_word.Texts as numbers
use Rattle.spl_meaning.specs.hp_word.Intrinsics as gate
use Rattle.spl_meaning.specs.ExpressionRules as rules
use Rattle.spl_meaning.specs.spl_tree.Operators as ops
use Rattle.spl_meaning.specs.spl_tree.Statements as stat
use Rattle.spl_meaning.specs.spl_tree.StatementTrees as trees
use Rattle.spl_meaning.specs.spl_tree.Declarations as decl
use Rattle.spl_cuts.specs.Commands as commands
use Rattle.spl_cuts.specs.Reading as cutread
use Rattle.spl_reading.specs.Readers as rd
use Rattle.spl_reading.specs.ReadExpressions as re
use Rattle.spl_reading.specs.ReadStatements as rs
use Rattle.spl_reading.specs.ReadDeclarations as rdl
use Rattle.std.specs.Fmt as fmt

-- the definitions of words, tokens, grammar, intrinsics and rules
unfoldable pub all : ℕ
unfolding w.signed w.signed_double w.word_of w.double_of w.is_out_of_word w.is_out_of_double w.compared w.word_result w.double_result w.added w.subtracted w.multiplied w.negated w.divided w.logically_added w.logically_subtracted w.logically_multiplied w.logically_divided w.double_added w.double_subtracted w.double_negated bits.bit bits.number_of bits.shifted bits.field bits.with_field bytes.byte_at bytes.with_byte bytes.double bytes.high_word bytes.low_word numbers.octal_text_of numbers.is_digits numbers.value_after numbers.decimal_number numbers.octal_number numbers.decimal_digits numbers.octal_digits numbers.number gate.addresses gate.stored_from gate.print_call gate.read_call gate.ascii_call gate.dascii_call gate.binary_call gate.dbinary_call gate.terminate_call gate.quit_call gate.called gate.is_in_bounds gate.has_room gate.outcome rules.is_field rules.is_misused ops.binds ops.shift_of stat.class_of trees.closed decl.option_of commands.setting commands.option commands.options commands.command_named commands.command cutread.comment_piece cutread.string_piece cutread.line_piece cutread.name_piece cutread.number_piece cutread.number_at cutread.one_mark cutread.two_marks cutread.mark_at cutread.piece cutread.checked cutread.turn cutread.listed_as cutread.kept_as cutread.named cutread.name_found cutread.fed_at cutread.fed cutread.limited cutread.added cutread.finished cutread.continued cutread.turned cutread.read cutread.read_text rd.and_then rd.followed rd.pure rd.refuse rd.by_symbol rd.take rd.at_place rd.allowed rd.kind_number rd.reserved_number rd.truth_number rd.symbol_number rd.same_symbol rd.expect rd.numbered rd.named_number rd.turns rd.repeat re.signed_by re.constant_by re.constant re.operator_of re.bits re.field re.negative_by re.enter re.opening re.enclosed re.more_arguments re.arguments re.named re.addressed re.primary_by re.inverse re.primary re.unary_step re.counted re.signed_by_next re.first re.join re.shifted re.bytes re.turn_by re.turn re.level re.whole re.unary re.expression re.within re.condition rs.indexed rs.reference rs.source_behind rs.source rs.while_or_until rs.move rs.scan rs.effect rs.if_test rs.value rs.assigned rs.field_assigned rs.behind_reference rs.stepped rs.go_name rs.more_statements rs.statement_list rs.labelled rs.with_arguments rs.named_statement rs.address_assigned rs.block rs.else_behind rs.if_statement rs.while_statement rs.do_statement rs.for_statement rs.case_statement rs.go_statement rs.effect_statement rs.by_word rs.statement_by rs.statement_step rs.statement rdl.more_parts rdl.separated rdl.name rdl.names rdl.item rdl.shape rdl.array rdl.more_arrays rdl.arrays rdl.more_terms rdl.equal rdl.by_token rdl.option_among rdl.option_behind rdl.more_options rdl.options rdl.parameters rdl.spec_names rdl.spec_behind rdl.spec_by rdl.more_specs rdl.heading_tail rdl.heading rdl.array_data rdl.item_data rdl.behind_heading rdl.procedure rdl.subroutine rdl.owned_by rdl.typed_by rdl.typed rdl.by_word rdl.declaration_by rdl.declaration rdl.declares rdl.more_declarations rdl.declaration_list rdl.body rdl.next_segment rdl.unit fmt.digits
all = 0
