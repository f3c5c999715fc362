pub mod AdmittedStarts
