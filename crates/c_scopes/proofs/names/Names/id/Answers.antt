use Rattle.std.proofs.Common.{◌∙◌, ap, position}
use Rattle.std.specs.Str.{bytes_eq}
use Rattle.c_scopes.proofs.PositionLaws.{position-map}
use Rattle.c_scopes.proofs.names.Names.id.Goals as goal

pub returns : goal.returns
returns c =
    c.get_index_of.ensures.index ∙ position-map (bytes_eq c.args.name.now) _ _
    ∙ ap (position (bytes_eq c.args.name.now)) c.self.view_is
