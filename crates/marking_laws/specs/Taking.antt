-- The objects whose addresses the parts of a typed statement take.
use Rattle.std.specs.Prelude.{ℕ, List, [], ◌∷◌, ◌++◌, map}
use Rattle.c_meaning.specs.declared.statements.Part.{Part}
use Rattle.c_meaning.specs.declared.statements.TypedDeclarator.{TypedDeclarator}
use Rattle.c_meaning.specs.declared.statements.TypedStatement.{TypedStatement}
use Rattle.c_meaning.specs.declared.statements.TypedItem.{TypedItem}
use Rattle.c_meaning.specs.declared.statements.TypedIteration.{TypedIteration}
use Rattle.c_meaning.specs.declared.statements.TypedSelection.{TypedSelection}
use Rattle.c_meaning.specs.declared.statements.TypedSection.{TypedSection}
use Rattle.c_meaning.specs.declared.statements.TypedItem.TheFolds.{fold-TypedItem, fold-TypedIteration, fold-TypedSelection, fold-TypedStatement, fold-TypedSection}
use Rattle.c_meaning.specs.Uses.{Numbers, taken_where, declarator_takes, item_takes, iteration_takes, selection_takes, statement_takes, block_takes, section_takes, all_of}
use Rattle.c_bodies.specs.declared.context.ItemList.{ItemList}
use Rattle.c_bodies.specs.declared.context.Sections.{Sections}

abbrev pub parts_taken : List Part → List ℕ
parts_taken [] = []
parts_taken (part ∷ parts) = taken_where part.value ++ parts_taken parts

abbrev pub declarators_take : List TypedDeclarator → List ℕ
declarators_take [] = []
declarators_take (d ∷ ds) = declarator_takes d ++ declarators_take ds

abbrev pub item_taken : TypedItem → List ℕ
item_taken = fold-TypedItem Numbers Numbers Numbers Numbers Numbers Numbers item_takes iteration_takes selection_takes statement_takes block_takes section_takes

abbrev pub iteration_taken : TypedIteration → List ℕ
iteration_taken = fold-TypedIteration Numbers Numbers Numbers Numbers Numbers Numbers item_takes iteration_takes selection_takes statement_takes block_takes section_takes

abbrev pub selection_taken : TypedSelection → List ℕ
selection_taken = fold-TypedSelection Numbers Numbers Numbers Numbers Numbers Numbers item_takes iteration_takes selection_takes statement_takes block_takes section_takes

abbrev pub statement_taken : TypedStatement → List ℕ
statement_taken = fold-TypedStatement Numbers Numbers Numbers Numbers Numbers Numbers item_takes iteration_takes selection_takes statement_takes block_takes section_takes

abbrev pub section_taken : TypedSection → List ℕ
section_taken = fold-TypedSection Numbers Numbers Numbers Numbers Numbers Numbers item_takes iteration_takes selection_takes statement_takes block_takes section_takes

abbrev pub items_take : ItemList → List ℕ
items_take items = all_of (map item_taken items.items)

abbrev pub sections_take : Sections → List ℕ
sections_take sections = all_of (map section_taken sections.sections)

abbrev pub statements_take : List TypedStatement → List ℕ
statements_take statements = all_of (map statement_taken statements)
