-- What a number is, as far as facts tell numbers apart.
use Rattle.std.specs.Prelude.{ℕ, Bool, true, false, not, ◌&&◌, length, Option, None, Some, if◌then◌else◌, nat_eq}
use Rattle.wf_base.specs.declared.base_methods.BaseSig.{BaseSig}
use Rattle.wf_base.specs.declared.base_methods.BaseSig.TheVariants as sigs
use Rattle.wf_ast.specs.declared.operators.Op.{Op}
use Rattle.wf_ast.specs.declared.operators.Op.TheVariants as ops
use Rattle.wf_ast.specs.declared.typed_code.Expr.{Expr}
use Rattle.wf_ast.specs.declared.typed_code.Expr.TheVariants as exprs
use Rattle.wf_ast.specs.Operators.{same_op}
use Rattle.wf_ast.specs.TypedTree.{NumTree, number, read, element, link, convert, length_of, asked, plus, Question, reader_length, writer_length}
use Rattle.wf_ast.specs.Same.{same_arith}
use Rattle.wf_facts.specs.declared.forms.Form.{Form}
use Rattle.wf_facts.specs.declared.forms.Form.TheVariants as forms

-- What is asked of a reader or a writer is its length.
abbrev pub is_length : Question → Bool
is_length reader_length = true
is_length writer_length = true
is_length question = false

abbrev pub form_of : NumTree → Form
form_of (number at n) = forms.Number
form_of (read at of p) = forms.Variable
form_of (element at of cells index) = forms.Other
form_of (link at sign op bits joined a b) = if same_arith op plus && not joined then forms.Sum else forms.Other
form_of (convert at sign bits a) = forms.Other
form_of (length_of at cells) = forms.ListLength
form_of (asked at question a) = if is_length question then forms.IoLength else forms.Other

-- The same of the node of a number that isn't constant.
abbrev pub form_of_method : BaseSig → Form
form_of_method sigs.ReaderLength = forms.IoLength
form_of_method sigs.WriterLength = forms.IoLength
form_of_method (sigs.SliceLength width) = forms.ListLength
form_of_method (sigs.ArrayLength width) = forms.ListLength
form_of_method sig = forms.Other

abbrev pub form_of_chain : Op → (operands : ℕ) → Form
form_of_chain op n = if same_op op ops.Add && nat_eq n 2 then forms.Sum else forms.Other

abbrev pub form_of_node : Expr → Form
form_of_node (exprs.Local x) = forms.Variable
form_of_node (exprs.Field x) = forms.Variable
form_of_node (exprs.Arg x) = forms.Variable
form_of_node (exprs.Chain op parts) = form_of_chain op (length parts)
form_of_node (exprs.Base on sig) = form_of_method sig
form_of_node expr = forms.Other

-- The number that a tree is.
abbrev pub number_in : NumTree → Option ℕ
number_in (number at n) = Some n
number_in t = None
