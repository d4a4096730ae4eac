-- The words that a command's line begins with.
use Rattle.std.specs.Prelude.{ℕ, List, codes}
use Rattle.script.specs.declared.keywords.Keyword.{Keyword}
use Rattle.script.specs.declared.keywords.Keyword.TheVariants.{Load, Scan, Halt, Report, Needs, Blocks, Bytes}

abbrev pub keyword_text : Keyword → List ℕ
keyword_text Load = codes "load"
keyword_text Scan = codes "scan"
keyword_text Halt = codes "halt"
keyword_text Report = codes "report"
keyword_text Needs = codes "needs"
keyword_text Blocks = codes "blocks"
keyword_text Bytes = codes "bytes"
