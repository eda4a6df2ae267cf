-- What callers name of the calls' promises and answers, whichever crate it comes from.
pub use Rattle.compiler.specs.Compiling
pub use Rattle.compiler.specs.Compiling.{Compilation}
pub use Rattle.engine.specs.Answers
pub use Rattle.engine.specs.Answers.{Answer}
pub use Rattle.repetition.specs.Listings
pub use Rattle.repetition.specs.Listings.{Listing}
pub use Rattle.fields.specs.Fields
pub use Rattle.fields.specs.Scanning
pub use Rattle.fields.specs.Gates
pub use Rattle.fields.specs.declared.Reading.{Reading}
pub use Rattle.fields.specs.Field.{Field}
pub use Rattle.fields.specs.Field as Field
pub use Rattle.fields.specs.declared.Gate.{Gate}
pub use Rattle.fields.specs.declared.Gate.TheVariants as Gate
pub use Rattle.fields.specs.Passing.{Passing}
pub use Rattle.fields.specs.Passing as Passing
pub use Rattle.fields.specs.Views
pub use Rattle.second.specs.Replies
