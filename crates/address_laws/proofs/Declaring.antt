-- What is declared and what is marked, beside each other (C11 6.2.1p4, 6.2.1p7).
use Rattle.std.proofs.Common.{◌≡◌, ◌⊎◌, inl, inr, ◌<◌, ◌≤◌, ◌+◌, ◌-◌, ◌++◌, ℕ, suc, Bool, true, false, Option, None, Some, List, [], ◌∷◌, map, take, length, slice_get, ap, sym, subst, ◌∙◌, refl, arith}
use Rattle.std.proofs.lemmas.List.{length-append}
use Rattle.std.proofs.lemmas.Option.{slice_get_within}
use Rattle.c_meaning.specs.declared.types.Object.{Object}
use Rattle.c_scopes.specs.Scopes.{Bound, Scopes, found, before, all_but_last, declared, opened_in, closed}
use Rattle.c_addresses.specs.Scans.{marks}
use Rattle.c_typing.specs.declared.environment.Entity.{Entity}
use Rattle.c_typing.specs.declared.environment.Entity.TheVariants as entity
use Rattle.expression_laws.specs.Keeping.{Each}
use Rattle.address_laws.specs.Following.{Outside, later, FollowsIn, TakenIn}
use Rattle.address_laws.proofs.Lists.{each-append, each-weaker, each-taken, pushed-at, kept-at, put-same, put-kept, put-length, found-among, last-before, without-last, pushed-map, take-after, length-after}

-- ---- marks

marks-kept : (q : Option ℕ) (addressed : List Bool) (i : ℕ) → slice_get addressed i ≡ Some true → slice_get (marks q addressed) i ≡ Some true
marks-kept None addressed i h = h
marks-kept (Some n) addressed i h = put-kept addressed n i h

marks-length : (q : Option ℕ) (addressed : List Bool) → length (marks q addressed) ≡ length addressed
marks-length None addressed = refl
marks-length (Some n) addressed = put-length addressed n true

marked-kept : (o : Outside) (q : Option ℕ) (addressed : List Bool) (n : ℕ) → (n < o.base) ⊎ (slice_get addressed (n - o.base) ≡ Some true) → (n < o.base) ⊎ (slice_get (marks q addressed) (n - o.base) ≡ Some true)
marked-kept o q addressed n (inl h) = inl h
marked-kept o q addressed n (inr h) = inr (marks-kept q addressed (n - o.base) h)

pub taken-marked : (o : Outside) (q : Option ℕ) (addressed : List Bool) (entities : List Entity) (k : ℕ) → TakenIn o addressed entities k → TakenIn o (marks q addressed) entities k
taken-marked o q addressed entities k t = record { declaration = t.declaration; object = t.object; marked = marked-kept o q addressed t.declaration t.marked }

module _ (o : Outside) (scanned : Scopes) (addressed : List Bool) (names : Scopes) (entities : List Entity) (objects : List Object) (f : FollowsIn o scanned addressed names entities objects) where
  pub follows-marked : (q : Option ℕ) → FollowsIn o scanned (marks q addressed) names entities objects
  follows-marked q = record {
    below = f.below;
    bound = f.bound;
    opened = f.opened;
    numbers = subst (λ (n : ℕ). Each (λ (b : Bound). b.number < n) scanned.bound) (sym (marks-length q addressed)) f.numbers;
    count = f.count ∙ ap (λ (n : ℕ). o.base + n) (sym (marks-length q addressed));
    within = f.within;
    apart = f.apart;
    automatic = f.automatic;
  }

  -- an object whose name is marked
  marked-by : (name : List ℕ) (n k : ℕ) → slice_get entities n ≡ Some (entity.Object k) → (found o.names.bound name ≡ Some n) ⊎ ((j : ℕ) × (found scanned.bound name ≡ Some j) × (n ≡ o.base + j))
      → (n < o.base) ⊎ (slice_get (marks (found scanned.bound name) addressed) (n - o.base) ≡ Some true)
  marked-by name n k h (inl e) = inl (f.below name n e)
  marked-by name n k h (inr e) =
      let few : n < length entities = slice_get_within entities n (entity.Object k) h in
      let lt : e.0 < length addressed = omega (arith, few, f.count, e.2) in
      let same : e.0 ≡ n - o.base = omega (arith, e.2) in
      inr (subst (λ (q : Option ℕ). slice_get (marks q addressed) (n - o.base) ≡ Some true) (sym e.1)
      (subst (λ (i : ℕ). slice_get (marks (Some e.0) addressed) i ≡ Some true) same (put-same addressed e.0 true lt)))

  pub marked-found : (name : List ℕ) (n k : ℕ) → found names.bound name ≡ Some n → slice_get entities n ≡ Some (entity.Object k) → TakenIn o (marks (found scanned.bound name) addressed) entities k
  marked-found name n k is h = record {
    declaration = n;
    object = h;
    marked = marked-by name n k h (found-among o.base o.names.bound scanned.bound name n (subst (λ (bs : List Bound). found bs name ≡ Some n) f.bound is));
  }

-- ---- declarations

taken-by-later : (o : Outside) (addressed more : List Bool) (n : ℕ) → (n < o.base) ⊎ (slice_get addressed (n - o.base) ≡ Some true) → (n < o.base) ⊎ (slice_get (addressed ++ more) (n - o.base) ≡ Some true)
taken-by-later o addressed more n (inl h) = inl h
taken-by-later o addressed more n (inr h) = inr (kept-at addressed more (n - o.base) true h)

pub taken-later : (o : Outside) (addressed more : List Bool) (entities added : List Entity) (k : ℕ) → TakenIn o addressed entities k → TakenIn o (addressed ++ more) (entities ++ added) k
taken-later o addressed more entities added k t = record {
  declaration = t.declaration;
  object = kept-at entities added t.declaration (entity.Object k) t.object;
  marked = taken-by-later o addressed more t.declaration t.marked;
}

module _ (o : Outside) (scanned : Scopes) (addressed : List Bool) (names : Scopes) (entities : List Entity) (objects : List Object) (f : FollowsIn o scanned addressed names entities objects) (name : List ℕ) where
  abbrev here : ℕ → Bound
  here n = record { name = name; number = n }

  bound-more : (declared name (length entities) names).bound ≡ o.names.bound ++ map (later o.base) (declared name (length addressed) scanned).bound
  bound-more =
      ap (λ (bs : List Bound). bs ++ here (length entities) ∷ []) f.bound
      ∙ ap (λ (n : ℕ). (o.names.bound ++ map (later o.base) scanned.bound) ++ here n ∷ []) f.count
      ∙ sym (pushed-map (later o.base) o.names.bound scanned.bound (here (length addressed)))

  one-longer : length (addressed ++ false ∷ []) ≡ length addressed + 1
  one-longer = length-append addressed (false ∷ [])

  numbers-more : Each (λ (b : Bound). b.number < length (addressed ++ false ∷ [])) (declared name (length addressed) scanned).bound
  numbers-more =
      each-append (λ (b : Bound). b.number < length (addressed ++ false ∷ [])) scanned.bound (here (length addressed) ∷ [])
      (each-weaker (λ (b : Bound). b.number < length addressed) (λ (b : Bound). b.number < length (addressed ++ false ∷ [])) scanned.bound (λ b lt. omega (arith, lt, one-longer)) f.numbers)
      (omega (arith, one-longer), tt)

  count-more : (e : Entity) → length (entities ++ e ∷ []) ≡ o.base + length (addressed ++ false ∷ [])
  count-more e =
      let one : length (entities ++ e ∷ []) ≡ length entities + 1 = length-append entities (e ∷ []) in
      let two : length (addressed ++ false ∷ []) ≡ length addressed + 1 = length-append addressed (false ∷ []) in
      omega (arith, one, two, f.count)

  -- an enumerator, a function or a `typedef`
  module _ (e : Entity) (other : (k : ℕ) → e ≡ entity.Object k → ⊥) where
    old : (i k : ℕ) → (slice_get entities i ≡ Some (entity.Object k)) ⊎ ((i ≡ length entities) × (e ≡ entity.Object k)) → slice_get entities i ≡ Some (entity.Object k)
    old i k (inl h) = h
    old i k (inr h) = absurd (other k h.1)

    still : (i k : ℕ) → slice_get (entities ++ e ∷ []) i ≡ Some (entity.Object k) → slice_get entities i ≡ Some (entity.Object k)
    still i k h = old i k (pushed-at entities e i (entity.Object k) h)

    pub other-follows : FollowsIn o (declared name (length addressed) scanned) (addressed ++ false ∷ []) (declared name (length entities) names) (entities ++ e ∷ []) objects
    other-follows = record {
      below = f.below;
      bound = bound-more;
      opened = f.opened;
      numbers = numbers-more;
      count = count-more e;
      within = λ i k h. f.within i k (still i k h);
      apart = λ i j k h l. f.apart i j k (still i k h) (still j k l);
      automatic = λ i k object le h x. f.automatic i k object le (still i k h) x;
    }

  -- an object
  module _ (object : Object) (none : object.start ≡ None) where
    abbrev next : Entity
    next = entity.Object (length objects)

    abbrev Cases : ℕ → ℕ → Type 0
    Cases i k = (slice_get entities i ≡ Some (entity.Object k)) ⊎ ((i ≡ length entities) × (k ≡ length objects))

    number-is : (k : ℕ) → next ≡ entity.Object k → k ≡ length objects
    number-is k h = cc

    cases-of : (i k : ℕ) → (slice_get entities i ≡ Some (entity.Object k)) ⊎ ((i ≡ length entities) × (next ≡ entity.Object k)) → Cases i k
    cases-of i k (inl h) = inl h
    cases-of i k (inr h) = inr (h.0, number-is k h.1)

    cases : (i k : ℕ) → slice_get (entities ++ next ∷ []) i ≡ Some (entity.Object k) → Cases i k
    cases i k h = cases-of i k (pushed-at entities next i (entity.Object k) h)

    longer : length (objects ++ object ∷ []) ≡ length objects + 1
    longer = length-append objects (object ∷ [])

    within-by : (i k : ℕ) → Cases i k → k < length (objects ++ object ∷ [])
    within-by i k (inl h) = let before : k < length objects = f.within i k h in omega (arith, before, longer)
    within-by i k (inr h) = omega (arith, h.1, longer)

    apart-by : (i j k : ℕ) → Cases i k → Cases j k → i ≡ j
    apart-by i j k (inl h) (inl l) = f.apart i j k h l
    apart-by i j k (inl h) (inr l) = let before : k < length objects = f.within i k h in absurd (omega (arith, before, l.1))
    apart-by i j k (inr h) (inl l) = let before : k < length objects = f.within j k l in absurd (omega (arith, before, h.1))
    apart-by i j k (inr h) (inr l) = h.0 ∙ sym l.0

    automatic-by : (i k : ℕ) (x : Object) → o.base ≤ i → Cases i k → (slice_get objects k ≡ Some x) ⊎ ((k ≡ length objects) × (object ≡ x)) → x.start ≡ None
    automatic-by i k x le (inl h) (inl l) = f.automatic i k x le h l
    automatic-by i k x le (inl h) (inr l) = let before : k < length objects = f.within i k h in absurd (omega (arith, before, l.0))
    automatic-by i k x le (inr h) (inl l) = let before : k < length objects = slice_get_within objects k x l in absurd (omega (arith, before, h.1))
    automatic-by i k x le (inr h) (inr l) = subst (λ (y : Object). y.start ≡ None) l.1 none

    pub object-follows : FollowsIn o (declared name (length addressed) scanned) (addressed ++ false ∷ []) (declared name (length entities) names) (entities ++ next ∷ []) (objects ++ object ∷ [])
    object-follows = record {
      below = f.below;
      bound = bound-more;
      opened = f.opened;
      numbers = numbers-more;
      count = count-more next;
      within = λ i k h. within-by i k (cases i k h);
      apart = λ i j k h l. apart-by i j k (cases i k h) (cases j k l);
      automatic = λ i k x le h l. automatic-by i k x le (cases i k h) (pushed-at objects object k x l);
    }

-- ---- scopes, and objects that no name stands for

module _ (o : Outside) (scanned : Scopes) (addressed : List Bool) (names : Scopes) (entities : List Entity) (objects : List Object) (f : FollowsIn o scanned addressed names entities objects) where
  abbrev shifted : ℕ → ℕ
  shifted n = length o.names.bound + n

  pub opened-follows : FollowsIn o (opened_in scanned) addressed (opened_in names) entities objects
  opened-follows = record {
    below = f.below;
    bound = f.bound;
    opened =
        ap (λ (ns : List ℕ). ns ++ length names.bound ∷ []) f.opened
        ∙ ap (λ (n : ℕ). (o.names.opened ++ map shifted scanned.opened) ++ n ∷ []) (ap (λ (bs : List Bound). length bs) f.bound ∙ length-after (later o.base) o.names.bound scanned.bound)
        ∙ sym (pushed-map shifted o.names.opened scanned.opened (length scanned.bound));
    numbers = f.numbers;
    count = f.count;
    within = f.within;
    apart = f.apart;
    automatic = f.automatic;
  }

  module _ (opened : List ℕ) (n : ℕ) (e : scanned.opened ≡ opened ++ n ∷ []) where
    names-opened : names.opened ≡ (o.names.opened ++ map shifted opened) ++ shifted n ∷ []
    names-opened = f.opened ∙ ap (λ (ns : List ℕ). o.names.opened ++ map shifted ns) e ∙ pushed-map shifted o.names.opened opened n

    pub closed-follows : FollowsIn o (closed scanned) addressed (closed names) entities objects
    closed-follows = record {
      below = f.below;
      bound =
          ap (λ (m : ℕ). take m names.bound) (ap before names-opened ∙ last-before (o.names.opened ++ map shifted opened) (shifted n))
          ∙ ap (λ (bs : List Bound). take (shifted n) bs) f.bound
          ∙ take-after (later o.base) o.names.bound n scanned.bound
          ∙ ap (λ (m : ℕ). o.names.bound ++ map (later o.base) (take m scanned.bound)) (sym (ap before e ∙ last-before opened n));
      opened =
          ap all_but_last names-opened
          ∙ without-last (o.names.opened ++ map shifted opened) (shifted n)
          ∙ ap (λ (ns : List ℕ). o.names.opened ++ map shifted ns) (sym (ap all_but_last e ∙ without-last opened n));
      numbers = each-taken (λ (b : Bound). b.number < length addressed) (before scanned.opened) scanned.bound f.numbers;
      count = f.count;
      within = f.within;
      apart = f.apart;
      automatic = f.automatic;
    }

  module _ (object : Object) where
    longer-by : length (objects ++ object ∷ []) ≡ length objects + 1
    longer-by = length-append objects (object ∷ [])

    nameless-within : (i k : ℕ) → slice_get entities i ≡ Some (entity.Object k) → k < length (objects ++ object ∷ [])
    nameless-within i k h = let before : k < length objects = f.within i k h in omega (arith, before, longer-by)

    nameless-automatic : (i k : ℕ) (x : Object) → o.base ≤ i → slice_get entities i ≡ Some (entity.Object k) → (slice_get objects k ≡ Some x) ⊎ ((k ≡ length objects) × (object ≡ x)) → x.start ≡ None
    nameless-automatic i k x le h (inl l) = f.automatic i k x le h l
    nameless-automatic i k x le h (inr l) = let before : k < length objects = f.within i k h in absurd (omega (arith, before, l.0))

    pub nameless-follows : FollowsIn o scanned addressed names entities (objects ++ object ∷ [])
    nameless-follows = record {
      below = f.below;
      bound = f.bound;
      opened = f.opened;
      numbers = f.numbers;
      count = f.count;
      within = nameless-within;
      apart = f.apart;
      automatic = λ i k x le h l. nameless-automatic i k x le h (pushed-at objects object k x l);
    }
