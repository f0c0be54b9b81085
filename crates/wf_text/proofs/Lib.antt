pub mod PrecedenceLaws
