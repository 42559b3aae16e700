-- The keywords of the three kinds of tags.
use Rattle.std.specs.Prelude.{ℕ, List, codes}
use Rattle.listing.specs.declared.token.ListedKind.{ListedKind}
use Rattle.listing.specs.declared.token.ListedKind.TheVariants.{Start, End, Empty}

abbrev pub keyword : ListedKind → List ℕ
keyword Start = codes "start"
keyword End = codes "end"
keyword Empty = codes "empty"
