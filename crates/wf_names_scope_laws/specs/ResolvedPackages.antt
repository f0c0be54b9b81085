-- When a resolved package is that of what is declared.
use Rattle.std.specs.Prelude.{◌≡◌, ⊤, ℕ, List, [], ◌∷◌, ◌++◌, map, Option, None, Some}
use Rattle.wf_text.specs.Precedence.{Decides}
use Rattle.wf_text.specs.declared.rules.Refusal.{Refusal}
use Rattle.wf_ast.specs.ParsedParts.{Parsed, AreDistinct}
use Rattle.wf_ast.specs.ParsedTree as parsed
use Rattle.wf_ast.specs.ParsedTree.{ResultTree, DeclTree}
use Rattle.wf_ast.specs.ReadPackage.{decls_of}
use Rattle.wf_parse.specs.Parsing.{IsParsed}
use Rattle.wf_named.specs.NamedTree.{NamedTypeTree, VarTree, ConstTree, NamedStructTree, NamedMethodTree, NamedPackageTree}
use Rattle.wf_names_rules.specs.Declarations.{Variable, Constant, Structure, Method, Declared, declared, as_variable, text_of}
use Rattle.wf_names_rules.specs.NameRules.{Breaks}
use Rattle.wf_names_rules.specs.Uses.{Scope, constant_scope, struct_scope, method_scope}
use Rattle.wf_names_resolve.specs.Package.{resolved_package}
use Rattle.wf_names_resolve.specs.Resolved.{word_of}
use Rattle.wf_names_scope_laws.specs.Scoping.{StructMeans}
use Rattle.wf_names_scope_laws.specs.ResolvedExprs.{ResolvesExpr, ResolvesType}
use Rattle.wf_names_scope_laws.specs.ResolvedStmts.{ResolvesBlock}

-- A variable keeps its name.
pub record ResolvesVariable (d : Declared) (scope : Scope) (v : Variable) (made : VarTree) : Type 0 where
  pub name : made.name ≡ word_of (text_of d) v.name
  pub of : ResolvesType d scope v.of made.of

abbrev pub ResolvesVariables : Declared → Scope → List Variable → List VarTree → Type 0
ResolvesVariables d scope [] [] = ⊤
ResolvesVariables d scope (v ∷ vs) (x ∷ xs) = ResolvesVariable d scope v x × ResolvesVariables d scope vs xs
ResolvesVariables d scope _ _ = ⊥

-- A constant is read where those before it are known, `known`.
pub record ResolvesConst (d : Declared) (known : List Variable) (c : Constant) (made : ConstTree) : Type 0 where
  pub name : made.name ≡ word_of (text_of d) c.name
  pub of : ResolvesType d (constant_scope known) c.of made.of
  pub value : ResolvesExpr d (constant_scope known) c.value made.value

abbrev pub ResolvesConsts : Declared → (known : List Variable) → List Constant → List ConstTree → Type 0
ResolvesConsts d known [] [] = ⊤
ResolvesConsts d known (c ∷ cs) (x ∷ xs) = ResolvesConst d known c x × ResolvesConsts d (known ++ as_variable c ∷ []) cs xs
ResolvesConsts d known _ _ = ⊥

pub record ResolvesStruct (d : Declared) (s : Structure) (made : NamedStructTree) : Type 0 where
  pub name : made.name ≡ word_of (text_of d) s.name
  pub fields : ResolvesVariables d (struct_scope d s) s.fields made.fields

abbrev pub ResolvesStructs : Declared → List Structure → List NamedStructTree → Type 0
ResolvesStructs d [] [] = ⊤
ResolvesStructs d (s ∷ ss) (x ∷ xs) = ResolvesStruct d s x × ResolvesStructs d ss xs
ResolvesStructs d _ _ = ⊥

abbrev pub ResolvesResult : Declared → Scope → ResultTree → Option NamedTypeTree → Type 0
ResolvesResult d scope parsed.gives_nothing None = ⊤
ResolvesResult d scope (parsed.gives of) (Some t) = ResolvesType d scope of t
ResolvesResult d scope _ _ = ⊥

-- A method of the struct that its declaration names.
pub record ResolvesMethod (d : Declared) (m : Method) (made : NamedMethodTree) : Type 0 where
  pub name : made.name ≡ word_of (text_of d) m.name
  pub of : StructMeans d m.owner.text.0 made.of
  pub public : made.public ≡ m.public
  pub args : ResolvesVariables d (method_scope d m) m.args made.args
  pub locals : ResolvesVariables d (method_scope d m) m.locals made.locals
  pub result : ResolvesResult d (method_scope d m) m.result made.gives
  pub body : ResolvesBlock d (method_scope d m) [] m.body made.body

abbrev pub ResolvesMethods : Declared → List Method → List NamedMethodTree → Type 0
ResolvesMethods d [] [] = ⊤
ResolvesMethods d (m ∷ ms) (x ∷ xs) = ResolvesMethod d m x × ResolvesMethods d ms xs
ResolvesMethods d _ _ = ⊥

-- All declarations of each kind in their order, so that a number that a name means is that of the same declaration, resolved.
pub record ResolvesPackage (d : Declared) (p : NamedPackageTree) : Type 0 where
  pub consts : ResolvesConsts d [] d.constants p.consts
  pub statuses : p.statuses ≡ map (word_of (text_of d)) d.statuses
  pub structs : ResolvesStructs d d.structs p.structs
  pub methods : ResolvesMethods d d.methods p.methods

-- So it is for declarations that break no rule of names, over texts that differ, in whatever order the methods stand.
abbrev pub PackagesAreResolved : Type 0
PackagesAreResolved =
    (name : List ℕ) (texts : List (List ℕ)) (decls : List DeclTree) (order struct_order : List ℕ) → AreDistinct texts → Decides (Breaks (declared texts decls)) None
    → ResolvesPackage (declared texts decls) (resolved_package name texts decls order struct_order)

-- And for every package that is read and keeps the rules of names.
abbrev pub ReadPackagesAreResolved : Type 0
ReadPackagesAreResolved =
    (name : List ℕ) (files : List (List ℕ)) (read : Parsed) → IsParsed name files read → ((refusal : Refusal) → Breaks (declared read.texts (decls_of read)) refusal → ⊥)
    → (order struct_order : List ℕ) → ResolvesPackage (declared read.texts (decls_of read)) (resolved_package read.name read.texts (decls_of read) order struct_order)
