-- Two packages without methods: as they are parsed, and the structs of their typed trees.
use Rattle.std.specs.Prelude.{ℕ, ◌+◌, true, List, [], ◌∷◌, codes}
use Rattle.wf_base.specs.declared.widths.Width.TheVariants.{W16, W32, W64}
use Rattle.wf_ast.specs.declared.types.Ty.TheVariants as types
use Rattle.wf_ast.specs.declared.parsed.Name.{Name}
use Rattle.wf_ast.specs.declared.parsed.WrittenMark.TheVariants.{Unmarked}
use Rattle.wf_ast.specs.ParsedTree.{TypeTree, array_of, base_type, status_type, struct_type, unrefined, FieldTrees, no_field, more_fields, DeclTree, structure, number}
use Rattle.wf_ast.specs.TypedPackage.{StructTree}
use Rattle.wf_named.specs.Examples.{at}

abbrev name : ℕ → (line col : ℕ) → Name
name text l c = record { text = record { 0 = text }; at = at l c }

abbrev pub base : ℕ → (line col : ℕ) → TypeTree
base text l c = base_type (name text l (c + 5)) (at l c) unrefined

-- The package
--     pub struct t(n : base.u16, f : base.bool, e : base.status, x : array[100] base.u32)
--     pub struct s(m : base.u64, inner : t)
abbrev pub small_texts : List (List ℕ)
small_texts = codes "t" ∷ codes "n" ∷ codes "u16" ∷ codes "f" ∷ codes "bool" ∷ codes "e" ∷ codes "x" ∷ codes "u32" ∷ codes "s" ∷ codes "m" ∷ codes "u64" ∷ codes "inner" ∷ []

abbrev pub small_decls : List DeclTree
small_decls =
    structure true (name 0 1 12) Unmarked
    (more_fields (name 1 1 14) (base 2 1 18) (more_fields (name 3 1 28) (base 4 1 32) (more_fields (name 5 1 43) (status_type (at 1 47) unrefined)
    (more_fields (name 6 1 60) (array_of (number 100 (at 1 70)) (at 1 64) (base 7 1 75)) no_field)))) (at 1 5)
    ∷ structure true (name 8 2 12) Unmarked (more_fields (name 9 2 14) (base 10 2 18) (more_fields (name 11 2 28) (struct_type (name 0 2 36)) no_field)) (at 2 5)
    ∷ []

abbrev pub inner : StructTree
inner =
    record {
      name = codes "t";
      public = true;
      fields =
          record { name = codes "n"; ty = types.Num W16 0 65535 } ∷ record { name = codes "f"; ty = types.Flag } ∷ record { name = codes "e"; ty = types.Status }
          ∷ record { name = codes "x"; ty = types.Array W32 0 4294967295 100 } ∷ [];
    }

abbrev pub outer : StructTree
outer =
    record {
      name = codes "s";
      public = true;
      fields = record { name = codes "m"; ty = types.Num W64 0 18446744073709551615 } ∷ record { name = codes "inner"; ty = types.Part (record { 0 = 0 }) } ∷ [];
    }

-- The package `pub struct s(a : array[65536] base.u64, b : array[65536] base.u64)`, with other fields after these.
abbrev pub large_texts : List (List ℕ)
large_texts = codes "s" ∷ codes "a" ∷ codes "u64" ∷ codes "b" ∷ codes "c" ∷ codes "u8" ∷ []

abbrev pub longest : (line col : ℕ) → TypeTree
longest l c = array_of (number 65536 (at l (c + 6))) (at l c) (base 2 l (c + 13))

abbrev pub large_decls : FieldTrees → List DeclTree
large_decls others = structure true (name 0 1 12) Unmarked (more_fields (name 1 1 14) (longest 1 18) (more_fields (name 3 1 41) (longest 1 45) others)) (at 1 5) ∷ []

-- The field `c : base.u8` after them.
abbrev pub one_byte : FieldTrees
one_byte = more_fields (name 4 1 68) (base 5 1 72) no_field

abbrev pub largest : StructTree
largest =
    record {
      name = codes "s";
      public = true;
      fields =
          record { name = codes "a"; ty = types.Array W64 0 18446744073709551615 65536 } ∷ record { name = codes "b"; ty = types.Array W64 0 18446744073709551615 65536 } ∷ [];
    }
