-- Further packages of the worked examples, each with its text.
use Rattle.std.specs.Prelude.{ℕ, Bool, true, false, List, [], ◌∷◌, None, Some, codes}
use Rattle.wf_base.specs.declared.marks.Mark.TheVariants.{Pure, Impure, Coroutine}
use Rattle.wf_base.specs.declared.widths.Width.TheVariants.{W8, W32, W64}
use Rattle.wf_base.specs.declared.base_methods.ReadForm.TheVariants.{ReadU8, ReadU32Le}
use Rattle.wf_text.specs.declared.categories.Category.TheVariants.{Suspension}
use Rattle.wf_text.specs.declared.numbers.StructId.{StructId}
use Rattle.wf_ast.specs.declared.types.Ty.{Ty}
use Rattle.wf_ast.specs.declared.types.Ty.TheVariants as types
use Rattle.wf_ast.specs.TypedTree.{local, field, arg, NumType, plus, bits_and, mod_plus, less, equal, NumTree, number, read, link, convert, slice, truth, compare, has_category, status, held, numeric, state, io, to_number, to_status, to_nothing, take_number, skip, copy_to_writer, copy_to_slice, own, sub, assign, await, perform, invoke, break_from, give_back, Block, end, plain, choose, loop}
use Rattle.wf_ast.specs.TypedPackage.{Variable, StructTree, MethodTree, PackageTree}
use Rattle.wf_ast.specs.BaseStatuses.{base_statuses}
use Rattle.wf_meaning.specs.Examples.{on, site, byte_type, word_type, byte_ty, word_ty, variable}

abbrev reader_arg : List Variable
reader_arg = variable (codes "src") types.Reader ∷ []

-- `return this.NAME`, the field with the number 0
abbrev returns_word : Block
returns_word = plain (site 90 1 1) (give_back (Some (numeric (read (on 1 1) word_type (field 0))))) end

abbrev getter : (struct_number : ℕ) → Block → MethodTree
getter s body = record { name = codes "get"; of = s; public = true; mark = Pure; args = []; locals = []; gives = Some word_ty; body = body }

-- A coroutine with a reader.
abbrev reading : List ℕ → (struct_number : ℕ) → (public : Bool) → (locals : List Variable) → Block → MethodTree
reading name s public locals body = record { name = name; of = s; public = public; mark = Coroutine; args = reader_arg; locals = locals; gives = None; body = body }

abbrev one_struct : List ℕ → List Variable → List StructTree
one_struct name fields = record { name = name; public = true; fields = fields } ∷ []

--     pub struct two?()
--     pub func two.a?(src: base.io_reader) {
--         args.src.skip_u32?(n: 2)
--     }
--     pub func two.b?(src: base.io_reader) {
--         args.src.skip_u32?(n: 1)
--     }
abbrev pub two : PackageTree
two =
    record { package_name = codes "two"; statuses = base_statuses; structs = one_struct (codes "two") []; methods = reading (codes "a") 0 true [] (plain (site 0 3 5) (await (on 3 14) to_nothing 0 (skip (number (on 3 27) 2))) end) ∷ reading (codes "b") 0 true [] (plain (site 1 6 5) (await (on 6 14) to_nothing 0 (skip (number (on 6 27) 1))) end) ∷ []; order = 0 ∷ 1 ∷ []; struct_order = 0 ∷ [] }

--     pub struct keep?(
--         done : base.u32,
--     )
--     pri func keep.body?(src: base.io_reader) {
--         var x : base.u8
--         x = args.src.read_u8?()
--         this.done = x as base.u32
--         x = args.src.read_u8?()
--         this.done = (this.done & 0xFF) + (x as base.u32)
--     }
--     pub func keep.start?(src: base.io_reader) {
--         var s : base.status
--         s =? this.body?(src: args.src)
--         return ok
--     }
--     pub func keep.finish?(src: base.io_reader) {
--         this.body?(src: args.src)
--     }
--     pub func keep.get() base.u32 {
--         return this.done
--     }
abbrev x_at : (line col : ℕ) → NumTree
x_at line col = read (on line col) byte_type (local 0)

abbrev keep_body : Block
keep_body =
    plain (site 0 6 5) (await (on 6 18) (to_number (on 6 5) byte_type (local 0)) 0 (take_number ReadU8))
    (plain (site 1 7 5) (assign (to_number (on 7 5) word_type (field 0)) None (numeric (convert (on 7 19) (on 7 19) 32 (x_at 7 17))))
    (plain (site 2 8 5) (await (on 8 18) (to_number (on 8 5) byte_type (local 0)) 0 (take_number ReadU8))
    (plain (site 3 9 5) (assign (to_number (on 9 5) word_type (field 0)) None (numeric (link (on 9 36) (on 9 36) plus 32 false
    (link (on 9 28) (on 9 28) bits_and 32 false (read (on 9 18) word_type (field 0)) (number (on 9 30) 255)) (convert (on 9 41) (on 9 41) 32 (x_at 9 39))))) end)))

abbrev pub keep : PackageTree
keep =
    record { package_name = codes "keep"; statuses = base_statuses; structs = one_struct (codes "keep") (variable (codes "done") word_ty ∷ []); methods = reading (codes "body") 0 false (variable (codes "x") byte_ty ∷ []) keep_body ∷ reading (codes "start") 0 true (variable (codes "s") types.Status ∷ []) (plain (site 4 13 5) (invoke (on 13 15) (to_status (on 13 5) (local 0)) true Coroutine (own 0) (io (on 13 26) 0 ∷ [])) (plain (site 5 14 5) (give_back (Some (state (status (on 14 12) 0)))) end)) ∷ reading (codes "finish") 0 true [] (plain (site 6 17 5) (invoke (on 17 10) to_nothing false Coroutine (own 0) (io (on 17 21) 0 ∷ [])) end) ∷ getter 0 returns_word ∷ []; order = 0 ∷ 1 ∷ 2 ∷ 3 ∷ []; struct_order = 0 ∷ [] }

--     pub struct word?(
--         v : base.u32,
--     )
--     pub func word.next?(src: base.io_reader) {
--         this.v = args.src.read_u32le?()
--     }
--     pub func word.get() base.u32 {
--         return this.v
--     }
abbrev pub word : PackageTree
word =
    record { package_name = codes "word"; statuses = base_statuses; structs = one_struct (codes "word") (variable (codes "v") word_ty ∷ []); methods = reading (codes "next") 0 true [] (plain (site 0 5 5) (await (on 5 23) (to_number (on 5 5) word_type (field 0)) 0 (take_number ReadU32Le)) end) ∷ getter 0 returns_word ∷ []; order = 0 ∷ 1 ∷ []; struct_order = 0 ∷ [] }

--     pub struct n?(
--         v : base.u32,
--     )
--     pri func n.two?(src: base.io_reader, k: base.u32[..= 9]) {
--         args.src.skip_u32?(n: 2)
--         this.v = args.k
--     }
--     pub func n.go?(src: base.io_reader, k: base.u32[..= 9]) {
--         this.two?(src: args.src, k: args.k)
--         this.v ~mod+= 1
--     }
--     pub func n.get() base.u32 {
--         return this.v
--     }
abbrev small_type : NumType
small_type = record { bits = 32; low = 0; high = 9 }

abbrev two_args : List Variable
two_args = variable (codes "src") types.Reader ∷ variable (codes "k") (types.Num W32 0 9) ∷ []

abbrev pub resuming : PackageTree
resuming =
    record { package_name = codes "n"; statuses = base_statuses; structs = one_struct (codes "n") (variable (codes "v") word_ty ∷ []); methods = record { name = codes "two"; of = 0; public = false; mark = Coroutine; args = two_args; locals = []; gives = None; body = plain (site 0 5 5) (await (on 5 14) to_nothing 0 (skip (number (on 5 27) 2))) (plain (site 1 6 5) (assign (to_number (on 6 5) word_type (field 0)) None (numeric (read (on 6 14) small_type (arg 1)))) end) } ∷ record { name = codes "go"; of = 0; public = true; mark = Coroutine; args = two_args; locals = []; gives = None; body = plain (site 2 9 5) (invoke (on 9 10) to_nothing false Coroutine (own 0) (io (on 9 20) 0 ∷ numeric (read (on 9 33) small_type (arg 1)) ∷ [])) (plain (site 3 10 5) (assign (to_number (on 10 5) word_type (field 0)) (Some mod_plus) (numeric (link (on 10 12) (on 10 12) mod_plus 32 false (read (on 10 5) word_type (field 0)) (number (on 10 19) 1)))) end) } ∷ getter 0 returns_word ∷ []; order = 0 ∷ 1 ∷ 2 ∷ []; struct_order = 0 ∷ [] }

--     pri struct inner?(
--         v : base.u32,
--     )
--     pub func inner.a?(src: base.io_reader) {
--         var c : base.u8
--         c = args.src.read_u8?()
--         this.v = c as base.u32
--     }
--     pub func inner.b?(src: base.io_reader) {
--         args.src.skip_u32?(n: 1)
--     }
--     pub func inner.get() base.u32 {
--         return this.v
--     }
--     pub struct outer?(
--         x : inner,
--     )
--     pub func outer.go?(src: base.io_reader) {
--         this.x.a?(src: args.src)
--     }
--     pub func outer.both?(src: base.io_reader) {
--         var s : base.status
--         s =? this.x.a?(src: args.src)
--         s =? this.x.b?(src: args.src)
--     }
--     pub func outer.get() base.u32 {
--         var n : base.u32
--         n = this.x.get()
--         return n
--     }
abbrev inside : StructId
inside = record { 0 = 0 }

abbrev pub nested : PackageTree
nested =
    record { package_name = codes "sub"; statuses = base_statuses; structs = record { name = codes "inner"; public = false; fields = variable (codes "v") word_ty ∷ [] } ∷ one_struct (codes "outer") (variable (codes "x") (types.Part inside) ∷ []); methods = reading (codes "a") 0 true (variable (codes "c") byte_ty ∷ []) (plain (site 0 6 5) (await (on 6 18) (to_number (on 6 5) byte_type (local 0)) 0 (take_number ReadU8)) (plain (site 1 7 5) (assign (to_number (on 7 5) word_type (field 0)) None (numeric (convert (on 7 16) (on 7 16) 32 (x_at 7 14)))) end)) ∷ reading (codes "b") 0 true [] (plain (site 2 10 5) (await (on 10 14) to_nothing 0 (skip (number (on 10 27) 1))) end) ∷ getter 0 returns_word ∷ reading (codes "go") 1 true [] (plain (site 3 19 5) (invoke (on 19 12) to_nothing false Coroutine (sub 0 0) (io (on 19 20) 0 ∷ [])) end) ∷ reading (codes "both") 1 true (variable (codes "s") types.Status ∷ []) (plain (site 4 23 5) (invoke (on 23 17) (to_status (on 23 5) (local 0)) true Coroutine (sub 0 0) (io (on 23 25) 0 ∷ [])) (plain (site 5 24 5) (invoke (on 24 17) (to_status (on 24 5) (local 0)) true Coroutine (sub 0 1) (io (on 24 25) 0 ∷ [])) end)) ∷ record { name = codes "get"; of = 1; public = true; mark = Pure; args = []; locals = variable (codes "n") word_ty ∷ []; gives = Some word_ty; body = plain (site 6 28 5) (invoke (on 28 16) (to_number (on 28 5) word_type (local 0)) false Pure (sub 0 2) []) (plain (site 7 29 5) (give_back (Some (numeric (read (on 29 12) word_type (local 0))))) end) } ∷ []; order = 0 ∷ 1 ∷ 2 ∷ 3 ∷ 4 ∷ 5 ∷ []; struct_order = 0 ∷ 1 ∷ [] }

--     pub struct cp!()
--     pub func cp.none!(s: slice base.u8) base.u64 {
--         var n : base.u64
--         var t : slice base.u8
--         n = t.copy_from_slice!(s: args.s)
--         return n
--     }
--     pub func cp.out!(dst: base.io_writer, s: slice base.u8) base.u64 {
--         var n : base.u64
--         n = args.dst.copy_from_slice!(s: args.s)
--         return n
--     }
abbrev long_type : NumType
long_type = record { bits = 64; low = 0; high = 18446744073709551615 }

abbrev long_ty : Ty
long_ty = types.Num W64 0 18446744073709551615

abbrev returns_local : (line : ℕ) → Block
returns_local line = plain (site line line 5) (give_back (Some (numeric (read (on line 12) long_type (local 0))))) end

abbrev pub copies : PackageTree
copies =
    record { package_name = codes "cp"; statuses = base_statuses; structs = one_struct (codes "cp") []; methods = record { name = codes "none"; of = 0; public = true; mark = Impure; args = variable (codes "s") (types.Slice W8) ∷ []; locals = variable (codes "n") long_ty ∷ variable (codes "t") (types.Slice W8) ∷ []; gives = Some long_ty; body = plain (site 0 5 5) (perform (on 5 11) (to_number (on 5 5) long_type (local 0)) (copy_to_slice (slice (on 5 9) 8 (local 1)) (slice (on 5 31) 8 (arg 0)))) (returns_local 6) } ∷ record { name = codes "out"; of = 0; public = true; mark = Impure; args = variable (codes "dst") types.Writer ∷ variable (codes "s") (types.Slice W8) ∷ []; locals = variable (codes "n") long_ty ∷ []; gives = Some long_ty; body = plain (site 1 10 5) (perform (on 10 18) (to_number (on 10 5) long_type (local 0)) (copy_to_writer 0 (slice (on 10 38) 8 (arg 1)))) (returns_local 11) } ∷ []; order = 0 ∷ 1 ∷ []; struct_order = 0 ∷ [] }

--     pub struct lab?(
--         n : base.u32,
--     )
--     pub func lab.run?(src: base.io_reader) {
--         var c : base.u8
--         while.outer true {
--             while true {
--                 c = args.src.read_u8?()
--                 if c == 0 {
--                     break.outer
--                 }
--             } endwhile
--         } endwhile.outer
--         this.n = 7
--     }
--     pub func lab.get() base.u32 {
--         return this.n
--     }
abbrev inner_loop : Block
inner_loop =
    plain (site 0 8 13) (await (on 8 26) (to_number (on 8 13) byte_type (local 0)) 0 (take_number ReadU8))
    (choose (site 2 9 13) false (compare (on 9 18) (on 9 18) (x_at 9 16) equal (number (on 9 21) 0)) (plain (site 1 10 17) (break_from 4) end) end end)

abbrev pub labels : PackageTree
labels =
    record { package_name = codes "lab"; statuses = base_statuses; structs = one_struct (codes "lab") (variable (codes "n") word_ty ∷ []); methods = reading (codes "run") 0 true (variable (codes "c") byte_ty ∷ []) (loop (site 4 6 5) (record { cond = truth (on 6 17) true; clauses = []; is_left = true; close = on 13 5 }) (loop (site 3 7 9) (record { cond = truth (on 7 15) true; clauses = []; is_left = false; close = on 12 9 }) inner_loop end) (plain (site 5 14 5) (assign (to_number (on 14 5) word_type (field 0)) None (numeric (number (on 14 14) 7))) end)) ∷ getter 0 returns_word ∷ []; order = 0 ∷ 1 ∷ []; struct_order = 0 ∷ [] }

--     pub struct r?()
--     pri func r.need?(src: base.io_reader) {
--         args.src.skip_u32?(n: 1)
--     }
--     pub func r.go?(src: base.io_reader, n: base.u32[..= 9]) {
--         var s : base.status
--         s =? this.need?(src: args.src)
--         if s.is_suspension() {
--             return s
--         }
--         return base."@end of data"
--     }
abbrev pub giving_up : PackageTree
giving_up =
    record { package_name = codes "r"; statuses = base_statuses; structs = one_struct (codes "r") []; methods = reading (codes "need") 0 false [] (plain (site 0 3 5) (await (on 3 14) to_nothing 0 (skip (number (on 3 27) 1))) end) ∷ record { name = codes "go"; of = 0; public = true; mark = Coroutine; args = two_args; locals = variable (codes "s") types.Status ∷ []; gives = None; body = plain (site 1 7 5) (invoke (on 7 15) (to_status (on 7 5) (local 0)) true Coroutine (own 0) (io (on 7 26) 0 ∷ [])) (choose (site 3 8 5) false (has_category (on 8 10) (held (on 8 8) (local 0)) Suspension) (plain (site 2 9 9) (give_back (Some (state (held (on 9 16) (local 0))))) end) end (plain (site 4 11 5) (give_back (Some (state (status (on 11 12) 3)))) end)) } ∷ []; order = 0 ∷ 1 ∷ []; struct_order = 0 ∷ [] }

--     pub struct spin?()
--     pub func spin.count(n: base.u32) base.u32 {
--         var i : base.u32
--         while i < args.n {
--             i ~mod+= 1
--         } endwhile
--         return i
--     }
abbrev i_at : (line col : ℕ) → NumTree
i_at line col = read (on line col) word_type (local 0)

abbrev pub spin : PackageTree
spin =
    record { package_name = codes "spin"; statuses = base_statuses; structs = one_struct (codes "spin") []; methods = record { name = codes "count"; of = 0; public = true; mark = Pure; args = variable (codes "n") word_ty ∷ []; locals = variable (codes "i") word_ty ∷ []; gives = Some word_ty; body = loop (site 1 4 5) (record { cond = compare (on 4 13) (on 4 13) (i_at 4 11) less (read (on 4 15) word_type (arg 0)); clauses = []; is_left = false; close = on 6 5 }) (plain (site 0 5 9) (assign (to_number (on 5 9) word_type (local 0)) (Some mod_plus) (numeric (link (on 5 11) (on 5 11) mod_plus 32 false (i_at 5 9) (number (on 5 18) 1)))) end) (plain (site 2 7 5) (give_back (Some (numeric (i_at 7 12)))) end) } ∷ []; order = 0 ∷ []; struct_order = 0 ∷ [] }
