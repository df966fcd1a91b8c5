-- Members one after another: one more, and the same where more is declared.
use Rattle.std.proofs.Common.{◌≡◌, ◌≤◌, ◌+◌, ℕ, true, false, min, nat_le, is_some, Option, None, Some, List, [], ◌∷◌, ◌++◌, length, Contains, ap, sym, subst, ◌∙◌, refl, arith}
use Rattle.std.proofs.lemmas.Grind.{common_steps}
use Rattle.c_tree.specs.declared.expressions.Identifier.{Identifier}
use Rattle.c_tree.specs.Names.{is_name}
use Rattle.c_scopes.specs.Scopes.{Bound, found}
use Rattle.c_meaning.specs.declared.types.CType.{CType}
use Rattle.c_meaning.specs.declared.types.Member.{Member}
use Rattle.c_meaning.specs.Types.{cells_of, struct_cells}
use Rattle.c_meaning.specs.StatementRules.{AreNames, MembersFill, is_plain, most_cells}
use Rattle.c_conversions.specs.declared.fault.TypeKind.TheVariants.{Cells}
use Rattle.c_conversions.specs.CTypes.{counted_cells}
use Rattle.c_typing.specs.declared.environment.Environment.{Environment}
use Rattle.c_typing.specs.declared.structs.Members.{Members}
use Rattle.c_typing.specs.Walks.{Breaks, Passes}
use Rattle.c_typing.specs.Specifiers.{no_members, is_member, with_member, add_member}
use Rattle.typing_laws.specs.Passing.{Passing, scope_of}
use Rattle.typing_laws.specs.Environments.{IsWellFormed, Extends}
use Rattle.typing_laws.proofs.Environments.{scope-grows}
use Rattle.typing_laws.proofs.Growth.{cells-kept}
use Rattle.typing_laws.proofs.Structs.{plain-more}
use Rattle.expression_laws.specs.Keeping.{Stays}
use Rattle.expression_laws.proofs.Steps.{passing-if}
use Rattle.expression_laws.proofs.Weakened.{plain-stands, scope-stands, no-shorter}
use Rattle.specifier_laws.specs.Declared.{MembersIn, SomeMembersIn, names_of}
use Rattle.specifier_laws.proofs.Lists.{some-pushed, map-pushed, names-pushed, unfound}

-- ---- one more

fill-pushed : (cells : List ℕ) (below at : ℕ) (members : List Member) (end : ℕ) (m : Member) → MembersFill cells below at members end
    → is_plain below m.ctype ≡ true → m.offset ≡ end → m.cells ≡ cells_of cells m.ctype → MembersFill cells below at (members ++ m ∷ []) (end + m.cells)
fill-pushed cells below at [] end m h plain here has = (plain, here ∙ sym h, has, ap (λ (n : ℕ). n + m.cells) h)
fill-pushed cells below at (first ∷ members) end m h plain here has = (h.0, h.1, h.2, fill-pushed cells below (at + first.cells) members end m h.3 plain here has)

few-more : (most cells more : ℕ) → nat_le (cells + min more (most + 1)) most ≡ true → (min more (most + 1) ≡ more) × (cells + min more (most + 1) ≤ most)
few-more most cells more h =
    let few : cells + min more (most + 1) ≤ most = grind (arith, common_steps) in
    (omega (arith, few), few)

none-found : (o : Option ℕ) → is_some o ≡ false → o ≡ None
none-found None h = refl
none-found (Some n) h = absurd (cc)

pub no-members-in : (env : Environment) → MembersIn env no_members
no-members-in env = record { fill = refl; names = tt; bound = refl; few = omega arith }

module _ (env : Environment) (name : Identifier) (c : CType) (m : Members) (h : MembersIn env m) (plain : is_plain (length env.structs) c ≡ true)
    (is : is_name name.text ≡ true) (new : is_member m name.text ≡ false) where
  unnamed : Contains (names_of m.members) name.text → ⊥
  unnamed = subst (λ (names : List (List ℕ)). Contains names name.text → ⊥) h.bound (unfound name.text m.names.bound (none-found (found m.names.bound name.text) new))

  member-more : nat_le (m.cells + counted_cells env.structs c) most_cells ≡ true → SomeMembersIn env (with_member name.text c (counted_cells env.structs c) m)
  member-more few =
      let least = few-more most_cells m.cells (cells_of (struct_cells env.structs) c) few in
      let last : Member = record { name = name.text; ctype = c; offset = m.cells; cells = counted_cells env.structs c } in (
        record {
          fill = fill-pushed (struct_cells env.structs) (length env.structs) 0 m.members m.cells last h.fill plain refl least.0;
          names = subst AreNames (sym (map-pushed (λ (x : Member). x.name) m.members last)) (names-pushed (names_of m.members) name.text h.names is unnamed);
          bound = map-pushed (λ (b : Bound). b.name) m.names.bound (record { name = name.text; number = length m.members })
              ∙ ap (λ (names : List (List ℕ)). names ++ name.text ∷ []) h.bound ∙ sym (map-pushed (λ (x : Member). x.name) m.members last);
          few = least.1;
        },
        some-pushed m.members last,
      )

  pub add-passing : Passing (Stays SomeMembersIn env) (add_member name c m env)
  add-passing =
      passing-if (Stays SomeMembersIn env) (nat_le (m.cells + counted_cells env.structs c) most_cells)
      (Passes (with_member name.text c (counted_cells env.structs c) m) env) (Breaks Cells name.place)
      (λ few. (refl, member-more few)) (λ e. tt)

-- ---- where more is declared

module _ (old new : Environment) (g : Extends old new) (well : IsWellFormed old) where
  pub fill-kept : (below over at : ℕ) (members : List Member) (end : ℕ) → below ≤ length old.structs → below ≤ over
      → MembersFill (struct_cells old.structs) below at members end → MembersFill (struct_cells new.structs) over at members end
  fill-kept below over at [] end stands more h = h
  fill-kept below over at (m ∷ members) end stands more h = (
    plain-more below over more m.ctype h.0,
    h.1,
    h.2
        ∙ sym (cells-kept (scope_of old) (scope_of new) (scope-grows old new g) (scope-stands old well) m.ctype (plain-stands (length old.structs) m.ctype (plain-more below (length old.structs) stands m.ctype h.0))),
    fill-kept below over (at + m.cells) members end stands more h.3,
  )

  pub members-kept : (m : Members) → MembersIn old m → MembersIn new m
  members-kept m h = record {
    fill = fill-kept (length old.structs) (length new.structs) 0 m.members m.cells (omega arith) (no-shorter old.structs new.structs g.structs) h.fill;
    names = h.names;
    bound = h.bound;
    few = h.few;
  }
