-- The statements of a method, counted by tokens alone and in its tree.
use Rattle.std.specs.Prelude.{◌+◌, ◌≤◌, ℕ, suc, Bool, true, false, List, [], ◌∷◌}
use Rattle.std.specs.Bool.{⊤}
use Rattle.wf_ast.specs.ParsedTree as tree
use Rattle.wf_ast.specs.ParsedTree.{StmtTree, BlockTree, ArmTrees, DeclTree}
use Rattle.wf_parse_grammar.specs.declared.tokens.Kind.{Kind}
use Rattle.wf_parse_grammar.specs.declared.tokens.Kind.TheVariants as kinds
use Rattle.wf_parse_grammar.specs.declared.tokens.Token.{Token}

-- Statements stand after these.
abbrev pub is_break : Kind → Bool
is_break kinds.OpenCurly = true
is_break kinds.Semicolon = true
is_break _ = false

-- Such a token begins a statement where it stands after a break.
abbrev pub begins_statement : Kind → Bool
begins_statement (kinds.Name n) = true
begins_statement kinds.This = true
begins_statement kinds.Args = true
begins_statement kinds.Var = true
begins_statement kinds.If = true
begins_statement kinds.While = true
begins_statement kinds.Break = true
begins_statement kinds.Continue = true
begins_statement kinds.Return = true
begins_statement kinds.Yield = true
begins_statement kinds.Assert = true
begins_statement _ = false

abbrev pub one_more_where : Bool → ℕ → ℕ
one_more_where true n = suc n
one_more_where false n = n

-- The count after one more token: a method begins at its `func`.
abbrev pub counted : (behind_break : Bool) → ℕ → Kind → ℕ
counted behind n kinds.Func = 0
counted true n t = one_more_where (begins_statement t) n
counted false n t = n

-- Whether a break is the last of the tokens, and the statements begun, from these on.
abbrev pub break_from : Bool → List Token → Bool
break_from behind [] = behind
break_from behind (t ∷ ts) = break_from (is_break t.kind) ts

abbrev pub count_from : (behind_break : Bool) → ℕ → List Token → ℕ
count_from behind n [] = n
count_from behind n (t ∷ ts) = count_from (is_break t.kind) (counted behind n t.kind) ts

-- Whether the tokens end in a break, and how many statements begin after the last `func`.
abbrev pub ends_in_break : List Token → Bool
ends_in_break tokens = break_from false tokens

abbrev pub begun : List Token → ℕ
begun tokens = count_from false 0 tokens

-- The statements of a tree, with those in the blocks of each.
abbrev mutual
  pub stmt_count : StmtTree → ℕ
  stmt_count (tree.branch arms at) = 1 + arms_count arms
  stmt_count (tree.loop label condition clauses body at) = 1 + block_count body
  stmt_count _ = 1

  pub block_count : BlockTree → ℕ
  block_count (tree.close at) = 0
  block_count (tree.more_stmts s b) = stmt_count s + block_count b

  pub arms_count : ArmTrees → ℕ
  arms_count tree.no_else = 0
  arms_count (tree.otherwise b) = block_count b
  arms_count (tree.arm condition b others) = block_count b + arms_count others

-- A method has at most 4,096.
abbrev pub IsShortDecl : DeclTree → Type 0
IsShortDecl (tree.method public owner name mark args result body at) = block_count body ≤ 4096
IsShortDecl _ = ⊤
