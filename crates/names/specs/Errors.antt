-- The number of each error. Assumes nothing.
use Rattle.std.specs.Prelude.{ℕ}
use Rattle.names.specs.declared.errors.ErrorCode.{ErrorCode}
use Rattle.names.specs.declared.errors.ErrorCode.TheVariants.{TokenizerError, XmlnsUriDeclared, XmlPrefixDeclared, XmlnsPrefixDeclared, DeclaredTwice, UnboundPrefix, EndTagMismatch, NoRootElement, UnexpectedInStart, UnexpectedInMain, UnexpectedInEnd, DuplicateAttribute}

abbrev pub code_number : ErrorCode → ℕ
code_number TokenizerError = 0
code_number XmlnsUriDeclared = 1
code_number XmlPrefixDeclared = 2
code_number XmlnsPrefixDeclared = 3
code_number DeclaredTwice = 4
code_number UnboundPrefix = 6
code_number EndTagMismatch = 7
code_number NoRootElement = 8
code_number UnexpectedInStart = 9
code_number UnexpectedInMain = 10
code_number UnexpectedInEnd = 11
code_number DuplicateAttribute = 12
