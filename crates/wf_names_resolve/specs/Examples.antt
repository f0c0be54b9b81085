-- Parsed packages and parts of them, of which the resolved trees are computed.
use Rattle.std.specs.Prelude.{◌+◌, ℕ, true, false, None, Some, List, [], ◌∷◌, ◌++◌, codes}
use Rattle.wf_ast.specs.declared.operators.Op.TheVariants as ops
use Rattle.wf_ast.specs.declared.parsed.Name.{Name}
use Rattle.wf_ast.specs.declared.parsed.Path.{Path}
use Rattle.wf_ast.specs.declared.parsed.Receiver.TheVariants as receivers
use Rattle.wf_ast.specs.declared.parsed.Root.{Root}
use Rattle.wf_ast.specs.declared.parsed.Root.TheVariants as roots
use Rattle.wf_ast.specs.declared.parsed.WrittenMark.TheVariants.{Exclamation, Question}
use Rattle.wf_ast.specs.ParsedTree as parsed
use Rattle.wf_ast.specs.ParsedTree.{GivenTrees, TypeTree, StmtTree, BlockTree, DeclTree}
use Rattle.wf_named.specs.NamedTree as tree
use Rattle.wf_named.specs.NamedTree.{NamedArgTrees, NamedBlockTree}
use Rattle.wf_named.specs.Examples.{at}
use Rattle.wf_names_rules.specs.declared.callees.Callee.TheVariants as callees
use Rattle.wf_names_rules.specs.Declarations.{declared}
use Rattle.wf_names_rules.specs.Uses.{Scope}
use Rattle.wf_names_resolve.specs.Standing.{Standing, standing_at}
use Rattle.wf_names_resolve.specs.Resolved.{args_for, resolved_given, resolved_block}

abbrev name : ℕ → (line col : ℕ) → Name
name text l c = record { text = record { 0 = text }; at = at l c }

abbrev path_to : Root → ℕ → (line col end : ℕ) → Path
path_to root text l c e = record { root = root; name = name text l e; at = at l c }

abbrev base : ℕ → (line col : ℕ) → TypeTree
base text l c = parsed.base_type (name text l (c + 5)) (at l c) parsed.unrefined

-- The package `counting` of the resolved trees' examples, as it is parsed: its texts by number.
abbrev pub counting_texts : List (List ℕ)
counting_texts =
    codes "#not a digit" ∷ codes "u8" ∷ codes "ZERO" ∷ codes "counter" ∷ codes "u32" ∷ codes "digits" ∷ codes "count" ∷ codes "io_reader" ∷ codes "src"
    ∷ codes "c" ∷ codes "read_u8" ∷ codes "step" ∷ codes "by" ∷ []

abbrev counting_loop : BlockTree
counting_loop =
    parsed.more_stmts (parsed.assign (parsed.to_path (path_to roots.Bare 9 9 9 9)) None (at 9 11) (parsed.answer (parsed.call (receivers.Path (path_to roots.Args 8 9 13 18)) (name 10 9 22) Question parsed.no_given)) (at 9 9))
    (parsed.more_stmts (parsed.branch
    (parsed.arm (parsed.chain ops.Same (parsed.path (path_to roots.Bare 9 10 12 12)) (parsed.link (at 10 14) (parsed.number 0 (at 10 17)) parsed.no_link) (at 10 14))
    (parsed.more_stmts (parsed.leave None (at 11 13)) (parsed.close (at 12 9)))
    (parsed.arm (parsed.chain ops.Less (parsed.path (path_to roots.Bare 9 12 19 19)) (parsed.link (at 12 21) (parsed.path (path_to roots.Bare 2 12 23 23)) parsed.no_link) (at 12 21))
    (parsed.more_stmts (parsed.back (parsed.present (parsed.own_status (name 0 13 20))) (at 13 13)) (parsed.close (at 14 9)))
    parsed.no_else)) (at 10 9))
    (parsed.more_stmts (parsed.do_call (parsed.call (receivers.This (at 15 9)) (name 11 15 14) Exclamation (parsed.more_given (name 12 15 20) (parsed.number 1 (at 15 24)) parsed.no_given)) (at 15 9))
    (parsed.close (at 16 5))))

abbrev pub counting_decls : List DeclTree
counting_decls =
    parsed.status true (name 0 1 12) (at 1 5)
    ∷ parsed.constant false (name 2 2 11) (base 1 2 18) (parsed.number 48 (at 2 28)) (at 2 5)
    ∷ parsed.structure true (name 3 3 12) Question (parsed.more_fields (name 5 4 5) (base 4 4 14) parsed.no_field) (at 3 5)
    ∷ parsed.method true (name 3 6 10) (name 6 6 18) Question (parsed.more_fields (name 8 6 25) (base 7 6 30) parsed.no_field) parsed.gives_nothing
    (parsed.more_stmts (parsed.var (name 9 7 9) (base 1 7 13) (at 7 5))
    (parsed.more_stmts (parsed.loop None (parsed.truth true (at 8 11)) parsed.no_clause counting_loop (at 8 5)) (parsed.close (at 17 1)))) (at 6 5)
    ∷ parsed.method false (name 3 18 10) (name 11 18 18) Exclamation (parsed.more_fields (name 12 18 24) (base 1 18 28) parsed.no_field) parsed.gives_nothing
    (parsed.more_stmts (parsed.assign (parsed.to_path (path_to roots.This 5 19 5 10)) (Some ops.ModAdd) (at 19 17) (parsed.convert (parsed.path (path_to roots.Args 12 19 24 29)) (base 4 19 35) (at 19 32)) (at 19 5)) (parsed.close (at 20 1))) (at 18 5)
    ∷ []

abbrev counting_scope : Scope
counting_scope = record { constants = []; this = Some 3; args = []; locals = [] }

abbrev pub somewhere : Standing
somewhere = standing_at (declared counting_texts counting_decls) counting_scope

-- Two arguments, in the order of their declaration and in the other.
abbrev two : (first second : ℕ) → (a b : ℕ) → GivenTrees
two first second a b = parsed.more_given (name first 1 1) (parsed.number a (at 1 5)) (parsed.more_given (name second 1 9) (parsed.number b (at 1 5)) parsed.no_given)

-- A method with the arguments `src` and `c`, by their texts 8 and 9.
abbrev with_two : Standing
with_two = record somewhere { args = λ m. 8 ∷ 9 ∷ [] }

abbrev pub given_in_order : NamedArgTrees
given_in_order = args_for with_two (callees.Own 0) (resolved_given with_two (two 8 9 1 2))

abbrev pub given_the_other_way : NamedArgTrees
given_the_other_way = args_for with_two (callees.Own 0) (resolved_given with_two (two 9 8 2 1))

abbrev pub one_and_two : NamedArgTrees
one_and_two = tree.more_args (tree.number 1 (at 1 5)) (tree.more_args (tree.number 2 (at 1 5)) tree.no_arg)

-- Loops in each other, the outer one labelled by the text 8, the inner one by 9 or not at all.
abbrev pub jumps_in : List StmtTree → BlockTree
jumps_in [] = parsed.close (at 9 9)
jumps_in (s ∷ ss) = parsed.more_stmts s (jumps_in ss)

abbrev four_jumps : List StmtTree
four_jumps = parsed.leave None (at 1 1) ∷ parsed.again (Some (name 9 2 2)) (at 2 1) ∷ parsed.leave (Some (name 8 3 3)) (at 3 1) ∷ parsed.leave (Some (name 7 4 4)) (at 4 1) ∷ []

abbrev pub jumps_resolved : NamedBlockTree
jumps_resolved = resolved_block somewhere (Some (name 7 0 1) ∷ Some (name 8 0 2) ∷ None ∷ Some (name 9 0 3) ∷ []) (jumps_in four_jumps)

abbrev pub jumps_by_number : NamedBlockTree
jumps_by_number =
    tree.more_stmts (tree.leave 0 (at 1 1)) (tree.more_stmts (tree.again 0 (at 2 1)) (tree.more_stmts (tree.leave 2 (at 3 1)) (tree.more_stmts (tree.leave 3 (at 4 1)) (tree.close (at 9 9)))))

-- Of two loops with one label the nearer is meant.
abbrev pub jump_to_the_nearer : NamedBlockTree
jump_to_the_nearer = resolved_block somewhere (Some (name 8 0 1) ∷ Some (name 8 0 2) ∷ None ∷ []) (jumps_in (parsed.leave (Some (name 8 3 3)) (at 3 1) ∷ []))

abbrev pub leaves_one : NamedBlockTree
leaves_one = tree.more_stmts (tree.leave 1 (at 3 1)) (tree.close (at 9 9))

-- A status of the language as a caller sees it: its first sign, then `base: `.
abbrev pub as_seen : List ℕ → List ℕ
as_seen [] = []
as_seen (sign ∷ text) = sign ∷ (codes "base: " ++ text)
