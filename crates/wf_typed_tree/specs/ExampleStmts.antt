-- Resolved packages that keep the rules, each for one statement, with the statement as it is written.
use Rattle.std.specs.Prelude.{true, Some, List, [], ◌∷◌, codes}
use Rattle.wf_base.specs.declared.marks.Mark.TheVariants.{Pure, Impure, Coroutine}
use Rattle.wf_base.specs.declared.widths.Width.TheVariants.{W8, W16}
use Rattle.wf_base.specs.declared.base_methods.BaseSig.TheVariants as sigs
use Rattle.wf_base.specs.declared.base_methods.ReadForm.TheVariants.{ReadU8, ReadU16Be}
use Rattle.wf_base.specs.declared.base_methods.PeekForm.TheVariants.{PeekU8}
use Rattle.wf_ast.specs.declared.operators.Op.TheVariants as ops
use Rattle.wf_ast.specs.declared.parsed.Clause.TheVariants.{Inv}
use Rattle.wf_named.specs.declared.nodes.BaseType.TheVariants as bases
use Rattle.wf_named.specs.NamedTree.{status, truth, path, index, slice, answer, convert, negation, absent, present, no_arg, more_args, call, to_path, to_element, no_clause, more_clauses, no_letter, more_letters, by_itself, via, assign, keep, do_call, branch, loop, leave, again, back, suspend, claim, close, more_stmts, otherwise, arm, NamedPackageTree}
use Rattle.wf_named.specs.Examples.{at, word, local, field, arg, constant, own, through}
use Rattle.wf_types_rules.specs.Examples.{here, base, pair}
use Rattle.wf_typed_tree.specs.Examples.{with_f, method_f, doing, x_at, c_at, st_at, a_at, literal, three, assigning, base_on, one}

-- x = K + a
abbrev pub constant_beside : NamedPackageTree
constant_beside = doing Impure (assigning (local 0 (here 5)) (pair ops.Add (path (constant 0 (here 28))) (a_at 32)))

-- x = (2 * 3 * 4) - a
abbrev pub product_beside : NamedPackageTree
product_beside = doing Impure (assigning (local 0 (here 5)) (pair ops.Sub (three ops.Mul (literal 2 11) (literal 3 14) (literal 4 18)) (a_at 32)))

-- y = 255 as base.u16
abbrev pub converted_constant : NamedPackageTree
converted_constant = doing Impure (assigning (local 1 (here 5)) (convert (literal 255 10) (base (bases.Number W16)) (here 14)))

-- y = x as base.u16
abbrev pub converted : NamedPackageTree
converted = doing Impure (assigning (local 1 (here 5)) (convert (x_at 10) (base (bases.Number W16)) (here 12)))

-- x = x << 300
abbrev pub wide_shift : NamedPackageTree
wide_shift = doing Impure (assigning (local 0 (here 5)) (pair ops.Shl (x_at 28) (literal 300 33)))

-- x = x + a + 1, and x = 1 + 2 + x
abbrev pub chain_of_three : NamedPackageTree
chain_of_three = doing Impure (assigning (local 0 (here 5)) (three ops.Add (x_at 10) (a_at 14) (literal 1 18)))

abbrev pub constants_in_front : NamedPackageTree
constants_in_front = doing Impure (assigning (local 0 (here 5)) (three ops.Add (literal 1 10) (literal 2 14) (x_at 18)))

-- c = c and (not c) and true
abbrev pub conditions_joined : NamedPackageTree
conditions_joined = doing Impure (assigning (local 3 (here 5)) (three ops.And (c_at 10) (negation (c_at 15) (here 14)) (truth true (here 18))))

-- x ~sat+= 1
abbrev pub update : NamedPackageTree
update = doing Impure (assign (to_path (local 0 (here 5))) (Some ops.SatAdd) (here 8) (literal 1 14) (here 5))

-- this.cells[1] |= x
abbrev pub element_update : NamedPackageTree
element_update = doing Impure (assign (to_element (field 2 (here 5)) (literal 1 12) (here 11)) (Some ops.BitOr) (here 15) (x_at 18) (here 5))

-- if c { x = 1 } else if x < a { x = 2 } else { x = 3 }
abbrev pub else_if : NamedPackageTree
else_if =
    doing Impure (branch
    (arm (c_at 8) (more_stmts (assigning (local 0 (here 5)) (literal 1 11)) (close (here 14)))
    (arm (pair ops.Less (x_at 28) (a_at 32)) (more_stmts (assigning (local 0 (here 5)) (literal 2 41)) (close (here 44)))
    (otherwise (more_stmts (assigning (local 0 (here 5)) (literal 3 51)) (close (here 54)))))) (here 5))

-- while x < 10, inv a >= x { while true { break OUTER } ; continue }
abbrev pub loops : NamedPackageTree
loops =
    doing Impure (loop (pair ops.Less (x_at 28) (literal 10 32)) (more_clauses Inv (pair ops.GreaterOrSame (a_at 28) (x_at 33)) (here 36) no_clause)
    (more_stmts (loop (truth true (here 41)) no_clause (more_stmts (leave 1 (here 44)) (close (here 47))) (here 40))
    (more_stmts (again 0 (here 50)) (close (here 60)))) (here 5))

-- x = args.src.read_u8?(), and y = args.src.read_u16be?()
abbrev pub reading : NamedPackageTree
reading = doing Coroutine (assigning (local 0 (here 5)) (answer (base_on (arg 1 (here 20)) (sigs.Read ReadU8) Coroutine no_arg)))

abbrev pub reading_more : NamedPackageTree
reading_more = doing Coroutine (assigning (local 1 (here 5)) (answer (base_on (arg 1 (here 20)) (sigs.Read ReadU16Be) Coroutine no_arg)))

-- args.src.skip_u32?(n: 7), and args.dst.write_u8?(a: K)
abbrev pub skipping : NamedPackageTree
skipping = doing Coroutine (do_call (base_on (arg 1 (here 20)) sigs.Skip Coroutine (one (literal 7 30))) (here 5))

abbrev pub writing : NamedPackageTree
writing = doing Coroutine (do_call (base_on (arg 2 (here 20)) sigs.Write Coroutine (one (path (constant 0 (here 30))))) (here 5))

-- args.src.skip_u32_fast!(actual: 1, worst_case: 2), and args.dst.write_u8_fast!(a: x)
abbrev pub skipping_fast : NamedPackageTree
skipping_fast = doing Impure (do_call (base_on (arg 1 (here 20)) sigs.SkipFast Impure (more_args (literal 1 30) (one (literal 2 40)))) (here 5))

abbrev pub writing_fast : NamedPackageTree
writing_fast = doing Impure (do_call (base_on (arg 2 (here 20)) sigs.WriteFast Impure (one (x_at 30))) (here 5))

-- args.dst.copy_from_slice!(s: args.data), and part.copy_from_slice!(s: args.data[x ..])
abbrev pub copying : NamedPackageTree
copying = doing Impure (do_call (base_on (arg 2 (here 20)) sigs.WriterCopy Impure (one (path (arg 3 (here 30))))) (here 5))

abbrev pub copying_a_part : NamedPackageTree
copying_a_part =
    doing Impure (do_call (base_on (local 4 (here 20)) (sigs.SliceCopy W8) Impure (one (slice (arg 3 (here 30)) (present (x_at 32)) absent (here 31)))) (here 5))

-- c = args.data.length() > this.cells.length(), and c = args.src.is_closed()
abbrev pub lengths : NamedPackageTree
lengths =
    doing Impure (assigning (local 3 (here 5))
    (pair ops.Greater (answer (base_on (arg 3 (here 20)) (sigs.SliceLength W8) Pure no_arg)) (answer (base_on (field 2 (here 40)) (sigs.ArrayLength W8) Pure no_arg))))

abbrev pub closing : NamedPackageTree
closing = doing Impure (assigning (local 3 (here 5)) (answer (base_on (arg 1 (here 20)) sigs.ReaderIsClosed Pure no_arg)))

-- x = args.src.peek_u8()
abbrev pub peeking : NamedPackageTree
peeking = doing Impure (assigning (local 0 (here 5)) (answer (base_on (arg 1 (here 20)) (sigs.Peek PeekU8) Pure no_arg)))

-- part = this.cells[1 .. a]
abbrev pub slicing : NamedPackageTree
slicing = doing Impure (assigning (local 4 (here 5)) (slice (field 2 (here 10)) (present (literal 1 12)) (present (a_at 15)) (here 11)))

-- x = args.data[y]
abbrev pub indexing : NamedPackageTree
indexing = doing Impure (assigning (local 0 (here 5)) (index (arg 3 (here 10)) (path (local 1 (here 12))) (here 11)))

-- st = "#bad", c = st <> ok, and c = st.is_error()
abbrev pub status_assigned : NamedPackageTree
status_assigned = doing Impure (assigning (local 2 (here 5)) (status 10 (here 10)))

abbrev pub status_compared : NamedPackageTree
status_compared = doing Impure (assigning (local 3 (here 5)) (pair ops.Differs (st_at 28) (status 0 (here 33))))

abbrev pub status_asked : NamedPackageTree
status_asked = doing Impure (assigning (local 3 (here 5)) (answer (base_on (local 2 (here 20)) sigs.IsError Pure no_arg)))

-- st =? this.h?(), this.h?(), this.n = this.g(k: 9), and this.inner.bump!(by: x)
abbrev pub status_kept : NamedPackageTree
status_kept = doing Coroutine (keep (to_path (local 2 (here 5))) (call (own 2) (here 22) Coroutine no_arg) (here 5))

abbrev pub coroutine_called : NamedPackageTree
coroutine_called = doing Coroutine (do_call (call (own 2) (here 22) Coroutine no_arg) (here 5))

abbrev pub answer_assigned : NamedPackageTree
answer_assigned = doing Impure (assigning (field 0 (here 5)) (answer (call (own 1) (here 22) Pure (one (literal 9 30)))))

abbrev pub field_called : NamedPackageTree
field_called = doing Impure (do_call (call (through 3 3) (here 22) Impure (one (x_at 30))) (here 5))

-- return "#bad" in a coroutine, return 7 in a method that gives a byte, and yield? "$wait"
abbrev pub status_returned : NamedPackageTree
status_returned = doing Coroutine (back (present (status 10 (here 12))) (here 5))

abbrev pub number_returned : NamedPackageTree
number_returned = with_f (method_f Pure (Some (base (bases.Number W8))) (more_stmts (back (present (literal 7 12)) (here 5)) (close (at 10 1))))

abbrev pub yielding : NamedPackageTree
yielding = doing Coroutine (suspend (status 11 (here 12)) (here 5))

-- assert x < a via "a < b: a < c; c < b" (c: K), and assert c
abbrev pub claiming : NamedPackageTree
claiming =
    doing Impure (claim (pair ops.Less (x_at 28) (a_at 32)) (via (word (codes "a < b: a < c; c < b") (here 40)) (more_letters (word (codes "c") (here 62)) (path (constant 0 (here 65))) no_letter)) (here 5))

abbrev pub claiming_alone : NamedPackageTree
claiming_alone = doing Impure (claim (c_at 12) by_itself (here 5))

abbrev pub samples : List NamedPackageTree
samples =
    constant_beside ∷ product_beside ∷ converted_constant ∷ converted ∷ wide_shift ∷ chain_of_three ∷ constants_in_front ∷ conditions_joined ∷ update ∷ element_update ∷ else_if ∷ loops ∷ []

abbrev pub base_samples : List NamedPackageTree
base_samples = reading ∷ reading_more ∷ skipping ∷ writing ∷ skipping_fast ∷ writing_fast ∷ copying ∷ copying_a_part ∷ lengths ∷ closing ∷ peeking ∷ slicing ∷ indexing ∷ []

abbrev pub other_samples : List NamedPackageTree
other_samples = status_assigned ∷ status_compared ∷ status_asked ∷ status_kept ∷ coroutine_called ∷ answer_assigned ∷ field_called ∷ status_returned ∷ number_returned ∷ yielding ∷ claiming ∷ claiming_alone ∷ []
