-- What a scope of the code says.
use Rattle.std.specs.Option.{option_map}
use Rattle.c_lex.specs.declared.typedefs.Scope.{Scope as ScopeCode}
use Rattle.c_lex.specs.Scopes.{Scope}

abbrev pub scope_of : ScopeCode → Scope
scope_of s = record { braces = s.braces; brackets = s.brackets; declares = s.declares; last = option_map (λ name. name.items) s.last; types = s.types }
